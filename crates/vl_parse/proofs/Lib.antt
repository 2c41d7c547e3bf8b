pub mod Lists
pub mod PortNames
pub mod Separators
pub mod Whole
pub mod Judging
