pub mod Texts
pub mod Endings
