pub mod Drafts
pub mod Sources
