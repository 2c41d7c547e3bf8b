pub mod LongTexts
pub mod Selected
pub mod Constants
pub mod Sides
pub mod Turning
pub mod Sums
