pub mod Sets
-- ---- words for the functions inside the crate alone
pub mod Keeps
pub mod Searches
