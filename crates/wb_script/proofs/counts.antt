-- How many of each kind lines have.
pub mod CountLemmas
pub mod CountedClasses
pub mod CountedLines
pub mod FewCounts
pub mod FieldCounts
pub mod KindCounts
