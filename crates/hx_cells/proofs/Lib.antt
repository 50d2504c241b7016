pub mod EachCell
pub mod StillLeft
