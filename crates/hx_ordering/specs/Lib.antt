pub mod Stones
pub mod Given
pub mod Choices
pub mod Marks
pub mod Orders
pub mod Tries
