pub mod Pushes
pub mod Slots
pub mod Stacks
