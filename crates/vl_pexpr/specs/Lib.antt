pub mod Nests
pub mod Faults
