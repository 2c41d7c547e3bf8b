pub mod Orders
pub mod Members
pub mod Listed
pub mod Keys
pub mod Repeats
pub mod Noting
pub mod Meanings
pub mod Shared
