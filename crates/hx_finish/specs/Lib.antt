pub mod Wants
pub mod Finishes
