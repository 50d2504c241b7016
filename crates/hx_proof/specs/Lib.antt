pub mod Winners
pub mod Local
pub mod Links
