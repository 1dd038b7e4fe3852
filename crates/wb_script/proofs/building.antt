-- The tree, line by line.
pub mod Additions
pub mod BodyMisfits
pub mod ClassGrowth
pub mod ClosedBlocks
pub mod FittingHeads
pub mod Growth
pub mod HeadParameters
pub mod ItemGrowth
pub mod Nests
pub mod OpenPlaces
pub mod Orders
pub mod PassedArguments
pub mod PlacesOfLines
pub mod Steps
