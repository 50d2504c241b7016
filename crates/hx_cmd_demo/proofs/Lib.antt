pub mod DrawnWins
pub mod KeptPromises
