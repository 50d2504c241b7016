pub mod Trees
pub mod Refusals
pub mod Runs
pub mod Promises
pub mod Standings
