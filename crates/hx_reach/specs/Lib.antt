pub mod Growth
pub mod Taken
pub mod Decided
