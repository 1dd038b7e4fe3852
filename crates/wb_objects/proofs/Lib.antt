pub mod Fields
pub mod Cells
pub mod Made
