-- ---- words for the functions inside the crate alone
pub mod Walks
