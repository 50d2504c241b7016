pub mod Serving
pub mod Standings
pub mod Sessions
