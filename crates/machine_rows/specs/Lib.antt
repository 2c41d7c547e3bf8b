pub mod Benches
pub mod Cores
pub mod Desks
pub mod Starts
pub mod Walked
