pub mod Digits
pub mod Reading
pub mod Loads
pub mod Places
