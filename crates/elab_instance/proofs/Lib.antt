pub mod Choices
pub mod Clocks
pub mod Givens
pub mod Joins
pub mod Locals
pub mod Steps
pub mod Turns
