pub mod Limits
pub mod Judging
pub mod Judgements
pub mod Promises
pub mod Standings
