-- A run that is over.
pub mod Ends
pub mod Fitting
pub mod OverRuns
