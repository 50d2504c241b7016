pub mod CutterLaws
pub mod LineLaws
pub mod StreamParts
pub mod NextLines
pub mod Endings
