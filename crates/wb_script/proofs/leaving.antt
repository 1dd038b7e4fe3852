-- Lines and statements that cannot leave.
pub mod QuietLines
pub mod QuietStatements
pub mod QuietTrees
