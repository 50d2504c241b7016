pub mod Generators
pub mod DrawnPositions
pub mod Draws
pub mod WinCounts
-- ---- words for the calls inside the crate alone
pub mod CellsLeft
