pub mod ReadInputs
