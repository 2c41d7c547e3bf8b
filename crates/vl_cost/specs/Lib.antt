pub mod Walks
pub mod Displays
