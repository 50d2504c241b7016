pub mod LaterOpenings
pub mod ThroughOpenings
pub mod PartShares
pub mod PartTables
pub mod ReadWinners
