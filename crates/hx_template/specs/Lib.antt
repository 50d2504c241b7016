pub mod Limits
-- ---- words for the functions inside the crate alone
pub mod Fillings
pub mod Entries
pub mod Reaches
