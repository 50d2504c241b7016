pub mod Closed
pub mod Progress
