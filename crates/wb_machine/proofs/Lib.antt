pub mod asking
pub mod effects
pub mod frames
pub mod kept
pub mod likeness
pub mod turns
pub mod whole_runs
