mod GivenLaws
mod OrderLaws
mod TryLaws
