pub mod TreeLaws
pub mod NamedNodes
pub mod OneRefusal
pub mod InputLaws
pub mod RunLaws
