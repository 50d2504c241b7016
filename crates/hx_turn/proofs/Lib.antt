pub mod Exchanges
pub mod TurnedCells
pub mod TurnedSets
pub mod TurnedBoards
pub mod TurnedStoneLaws
pub mod KeyLaws
pub mod TurnedGraphs
pub mod TurnedGames
