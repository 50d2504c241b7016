pub mod Machine
pub mod Histories
pub mod Counted
pub mod Seats
pub mod Hints
pub mod HintWords
