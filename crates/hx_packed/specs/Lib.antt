pub mod KeptSteps
pub mod KeptRules
pub mod Children
