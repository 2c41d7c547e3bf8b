pub mod Parts
pub mod Boxed
