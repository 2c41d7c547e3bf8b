pub mod Filling
pub mod Operands
pub mod Selecting
pub mod Table
pub mod Wholes
