pub mod ForkLemmas
pub mod SetHeaps
pub mod TableLemmas
