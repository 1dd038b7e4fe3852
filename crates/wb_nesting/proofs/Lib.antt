pub mod Misfits
pub mod Runs
