pub mod Cycling
pub mod Fitting
pub mod Putting
pub mod Slots
pub mod WorkedRows
pub mod Writing
pub mod Shared
