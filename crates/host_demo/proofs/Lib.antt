pub mod Pieces
pub mod Expected
pub mod Nexts
pub mod Read
