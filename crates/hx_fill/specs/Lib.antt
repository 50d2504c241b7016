pub mod Fills
pub mod Makers
pub mod Rounds
pub mod Musts
pub mod Views
pub mod Unders
