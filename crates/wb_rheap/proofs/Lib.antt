pub mod Counters
pub mod Finding
pub mod Growing
pub mod HeapFields
pub mod LongestRuns
pub mod Moving
pub mod Numbers
pub mod Reallocated
