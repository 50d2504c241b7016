pub mod PlainTexts
pub mod Refusals
pub mod RunClauses
