pub mod GrowthLaws
pub mod DecidedLaws
