pub mod Bits
pub mod FreeList
pub mod Holes
pub mod Inside
pub mod Maxima
pub mod RowGaps
pub mod Segments
pub mod States
