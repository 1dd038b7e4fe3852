mod KeptFields
mod MarkedWords
mod MovedWords
mod NextMarks
mod RegionSteps
pub mod WrittenHalves
