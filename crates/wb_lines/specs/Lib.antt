pub mod FirstBytes
pub mod BytesOf
pub mod Segments
pub mod Typed
