pub mod Beside
pub mod Examples
pub mod Holding
pub mod Loops
pub mod Outcomes
pub mod Restoring
