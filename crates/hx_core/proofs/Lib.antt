pub mod ListChanges
pub mod EntryReads
pub mod BookSteps
pub mod CountSteps
pub mod RunLaws
pub mod FieldLaws
