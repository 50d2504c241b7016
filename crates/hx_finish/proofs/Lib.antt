pub mod WantingEnds
pub mod SearchEnds
pub mod ToldInputs
