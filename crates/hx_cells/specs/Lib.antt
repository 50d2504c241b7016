pub mod CellsLeft
pub mod VerticesLeft
