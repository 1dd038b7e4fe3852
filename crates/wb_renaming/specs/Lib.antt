pub mod Follows
pub mod SameButNumbers
