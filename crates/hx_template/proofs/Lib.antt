pub mod Numbers
pub mod FillingLaws
pub mod ReachLaws
pub mod LocalCases
pub mod EntryLaws
