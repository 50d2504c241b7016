pub mod RefutedLaws
pub mod StopLaws
pub mod UnlistedLaws
pub mod LookLaws
