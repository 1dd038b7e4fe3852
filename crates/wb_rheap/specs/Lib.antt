pub mod Heap
pub mod Refusals
