pub mod Banks
pub mod Laid
pub mod Numbers
pub mod Parts
pub mod Traps
