pub mod Folded
pub mod Kept
pub mod Seen
pub mod Types
pub mod Wholes
