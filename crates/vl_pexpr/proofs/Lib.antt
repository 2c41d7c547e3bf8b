pub mod Opening
pub mod Judging
