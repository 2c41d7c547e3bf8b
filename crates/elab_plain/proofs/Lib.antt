pub mod Opens
pub mod Walks
pub mod LeftSides
pub mod StatementTrees
pub mod Shared
