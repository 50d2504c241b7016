pub mod FrontLaws
pub mod Sums
pub mod PartLaws
pub mod StoreLaws
pub mod Keeps
pub mod Closing
pub mod ReaderLaws
pub mod FoundLaws
