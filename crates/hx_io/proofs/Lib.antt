pub mod CauseLaws
pub mod SinkLaws
pub mod SourceLaws
