pub mod After
pub mod Fits
pub mod Names
pub mod Rows
pub mod Bytes
pub mod Tables
