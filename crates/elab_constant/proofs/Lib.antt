pub mod Bytes
pub mod Folding
pub mod Kept
pub mod Named
pub mod WideRanges
pub mod Tables
pub mod Wholes
