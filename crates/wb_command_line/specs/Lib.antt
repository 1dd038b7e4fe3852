pub mod Command
pub mod CommandLine
pub mod Fault
pub mod Passed
pub mod SetList
pub mod Spelled
pub mod Subcommands
pub mod WordByWord
