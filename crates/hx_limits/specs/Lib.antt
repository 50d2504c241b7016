pub mod Settings
pub mod Causes
pub mod Tallies
