pub mod Fronts
pub mod OneList
pub mod Readers
pub mod Laws
