pub mod WordLaws
pub mod Numbers
pub mod MoveLaws
pub mod Passing
pub mod TextLaws
pub mod Counting
pub mod NameLaws
pub mod Naming
