pub mod Debug
pub mod LevelCounts
pub mod Levels
pub mod Log
pub mod Setting
pub mod Tally
