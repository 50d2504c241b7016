pub mod MissingStones
pub mod KnownEntries
pub mod WideLaws
pub mod RefusalLaws
