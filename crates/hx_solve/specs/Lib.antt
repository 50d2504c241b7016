pub mod Solutions
pub mod Kept
-- ---- words for the functions inside the crate alone
pub mod Searches
