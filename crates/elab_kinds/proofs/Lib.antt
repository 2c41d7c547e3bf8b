pub mod Adding
pub mod Trees
pub mod Parts
pub mod Saying
pub mod Placing
pub mod Counting
pub mod Keeping
pub mod Sizing
