pub mod Fields
pub mod Halves
pub mod Lending
pub mod Marks
