pub mod LaterLists
pub mod PartedEnds
pub mod ForemostEnds
pub mod ClosedEnds
