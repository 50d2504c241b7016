pub mod BookMachine
pub mod Machine
pub mod Runs
pub mod Fields
