-- Two runs that are the same but for numbers, as machines hold them.
pub mod CellsAlike
pub mod GrownMaps
pub mod ItemsAlike
pub mod Maps
pub mod PiecesAlike
pub mod RunsAlike
