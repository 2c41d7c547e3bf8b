mod Kept
pub mod Tests
mod Standing
pub mod Shared
