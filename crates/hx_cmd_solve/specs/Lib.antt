pub mod Positions
pub mod Answers
pub mod Promises
