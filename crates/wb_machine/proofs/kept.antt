-- What holds between two turns.
pub mod ObjectFields
pub mod Rows
pub mod SlotsKept
pub mod StackBeside
pub mod StackPushes
pub mod TextInvariant
pub mod WholeCells
