pub mod Bodies
pub mod Quiet
pub mod QuietLines
pub mod Sound
pub mod Spellings
