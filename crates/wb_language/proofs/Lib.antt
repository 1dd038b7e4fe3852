pub mod LineExamples
pub mod WordLemmas
pub mod WritingLemmas
