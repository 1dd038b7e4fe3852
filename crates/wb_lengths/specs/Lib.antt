pub mod Forks
pub mod Lengths
pub mod SetHeaps
pub mod Walk
