pub mod Copies
pub mod Marks
pub mod Moves
pub mod Needs
pub mod Widths
