pub mod Turned
pub mod TurnedStones
pub mod Keys
pub mod Reversed
