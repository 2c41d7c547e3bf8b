pub mod Tallies
pub mod Displays
pub mod Tasks
pub mod Walks
pub mod Bodies
