pub mod Widths
pub mod Value
pub mod IsSized
pub mod Sizing
pub mod Read
pub mod Nodes
pub mod Room
