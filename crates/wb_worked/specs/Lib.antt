pub mod Shorthands
pub mod WorkedScripts
pub mod WorkedRuns
pub mod WorkedOrder
pub mod WorkedSweeps
pub mod WorkedFaults
