pub mod Words
pub mod Options
pub mod Seeds
pub mod Sizes
pub mod Commands
pub mod Settings
pub mod Choices
