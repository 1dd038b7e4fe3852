-- What the contracts of a watched run say.
pub mod Watched
