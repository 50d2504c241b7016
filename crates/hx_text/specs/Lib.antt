pub mod Grammars
pub mod PositionTexts
pub mod StepTexts
pub mod FillTexts
pub mod Entries
pub mod Versions
pub mod TreeTexts
pub mod Lengths
-- ---- words for the functions inside the crate alone
pub mod Spelling
