pub mod LineWords
pub mod ToldTemplates
pub mod Beginnings
pub mod TemplateFaults
pub mod Misfits
pub mod WholeReads
