-- Lines spell one script, and bytes have one first fault.
pub mod BlockLaws
pub mod FaultLaws
pub mod NameLaws
pub mod OperandLaws
pub mod ReadBack
pub mod ScriptLaws
pub mod StatementLaws
pub mod TextLemmas
pub mod TreeLaws
