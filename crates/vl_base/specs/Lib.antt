pub mod Display
pub mod Files
pub mod Places
pub mod Selects
pub mod Value
