mod Imaging
mod Keeping
pub mod Weights
pub mod Lights
pub mod Waves
pub mod Sums
pub mod Bits
pub mod Plain
pub mod Parts
pub mod Late
pub mod Nodes
pub mod Delaying
pub mod Others
pub mod Variables
pub mod Runs
