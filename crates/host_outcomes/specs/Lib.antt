pub mod Begun
pub mod Ends
pub mod Reported
pub mod Seen
pub mod Given
pub mod Steps
