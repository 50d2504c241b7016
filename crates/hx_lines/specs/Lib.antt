pub mod Lines
pub mod Cutters
pub mod Services
