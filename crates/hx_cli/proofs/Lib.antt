pub mod Names
pub mod Spellings
pub mod Leads
pub mod SearchWords
pub mod OptionWords
pub mod SeedWords
pub mod SizeWords
pub mod CommandWords
