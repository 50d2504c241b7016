pub mod Surveys
-- ---- words for the functions inside the crate alone
pub mod Readings
pub mod Orders
pub mod Shares
