pub mod SizedRun
pub mod Sizing
