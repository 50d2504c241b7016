pub mod Moves
pub mod Sweeps
-- ---- words for the functions inside the crate alone
pub mod Tries
pub mod Growth
