pub mod cells
pub mod heap
pub mod language
pub mod meaning
pub mod runs
