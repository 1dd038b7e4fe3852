pub mod AllOfAPart
pub mod Beside
pub mod Meetings
pub mod PairSets
pub mod SetSearch
pub mod SetSweeping
pub mod Stretches
pub mod Sweeping
