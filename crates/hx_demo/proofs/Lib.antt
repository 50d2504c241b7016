pub mod WordLaws
pub mod DrawnLists
pub mod BoardCells
pub mod DrawnSets
pub mod DrawnStones
pub mod DrawnBoards
pub mod DrawnOneByOne
pub mod WinCountLaws
