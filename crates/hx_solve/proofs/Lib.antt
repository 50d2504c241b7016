pub mod TreeSolutions
pub mod LoneEnds
pub mod PlainSweeps
pub mod FoundWinners
