pub mod Ends
pub mod Seats
pub mod Searches
pub mod HintWords
-- ---- words for the functions inside the crate alone
pub mod Parts
