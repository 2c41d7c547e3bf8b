pub mod Elsewhere
pub mod Ports
pub mod Refusals
