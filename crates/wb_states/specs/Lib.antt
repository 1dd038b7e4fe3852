pub mod Answers
pub mod Closed
pub mod Ground
pub mod Many
pub mod States
