pub mod Causes
pub mod Sources
pub mod Sinks
pub mod Standard
