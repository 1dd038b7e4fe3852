pub mod Cuts
pub mod Digits
pub mod FirstBytes
pub mod FirstSegments
pub mod Foreign
pub mod BytesOf
pub mod OperandPlaces
pub mod TypedLemmas
