pub mod Ors
pub mod Places
pub mod Reader
pub mod TextLines
pub mod Boards
-- ---- words for the functions inside the crate alone
pub mod EntryReads
