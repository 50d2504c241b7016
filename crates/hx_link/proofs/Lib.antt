pub mod MeetingLaws
pub mod LinkLaws
pub mod PartLaws
pub mod OneLink
