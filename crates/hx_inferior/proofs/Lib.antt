pub mod OpenLaws
pub mod DeadLaws
pub mod PairLaws
