-- Loops that make a list or a pass.
pub mod ListLoops
pub mod Passes
pub mod Tests
