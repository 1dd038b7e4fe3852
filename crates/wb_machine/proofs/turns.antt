-- What is left after a turn is what was left before it.
pub mod CarriedOut
pub mod Copies
pub mod Destructions
pub mod FirstTurn
pub mod Flows
pub mod Heads
pub mod Scripts
pub mod Steps
pub mod Tops
pub mod Unwinding
