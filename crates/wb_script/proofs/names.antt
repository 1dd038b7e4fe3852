-- The names of a script, and the lines with what these refer to.
pub mod AbsentNames
pub mod BytesOf
pub mod CheckedLemmas
pub mod DeclaredHere
pub mod FitLemmas
pub mod FoundItems
pub mod Indexes
pub mod KnownLines
pub mod LineFits
pub mod LinesOfRows
pub mod LiteralLemmas
pub mod OneOperand
pub mod OperandPlaces
pub mod ReadLemmas
pub mod ResolvedLemmas
pub mod Tables
