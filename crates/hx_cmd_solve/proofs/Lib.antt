pub mod NodesOut
pub mod Positions
pub mod SolvedTrees
pub mod OpenPositions
pub mod KeptPromises
