pub mod Answers
pub mod Promises
-- ---- words for the functions inside the crate alone
pub mod Roots
