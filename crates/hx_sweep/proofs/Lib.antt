pub mod WinCases
pub mod NodeGrowth
pub mod AnswerOrder
pub mod SweepSizes
