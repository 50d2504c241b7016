pub mod Sets
pub mod Ends
pub mod Jobs
-- ---- words for the functions inside the crate alone
pub mod Forms
pub mod Looks
