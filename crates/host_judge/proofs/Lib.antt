pub mod Planned
pub mod Begun
pub mod Moved
pub mod Decided
pub mod Weighed
pub mod Runs
pub mod Noted
pub mod Judging
