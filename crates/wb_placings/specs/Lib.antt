pub mod PlacedRuns
