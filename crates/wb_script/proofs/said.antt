-- The checks, as they are said of all lines of a script.
pub mod CallArguments
pub mod ClassAround
pub mod ClassFields
pub mod DoubleNames
pub mod FieldNames
pub mod FirstSaid
pub mod LaterFaults
pub mod ManyLines
pub mod OpenBodies
pub mod OpenTraps
pub mod QuietLines
pub mod RightOperands
pub mod SinceLines
pub mod Sorts
pub mod WrongLines
