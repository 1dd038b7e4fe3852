-- Which statements, pieces and turns ask for an attempt.
pub mod Asked
pub mod AskedPieces
pub mod Counted
pub mod Later
pub mod Made
pub mod NextMade
pub mod NothingAsked
pub mod Quiet
