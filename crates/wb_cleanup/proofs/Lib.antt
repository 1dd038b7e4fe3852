mod SlotWords
mod Rewriting
pub mod StackInHeap
mod Growing
pub mod HeapBesideStack
