pub mod Extending
pub mod Owning
pub mod Formatting
pub mod Walking
pub mod Reading
pub mod Bytes
pub mod Calling
pub mod Nexting
mod Ways
