pub mod Trees
pub mod Paths
pub mod Placing
pub mod Marking
pub mod Splitting
pub mod Waving
