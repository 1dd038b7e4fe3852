pub mod TriesLemmas
