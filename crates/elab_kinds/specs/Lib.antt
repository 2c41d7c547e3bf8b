pub mod Names
pub mod Parts
pub mod Said
pub mod Facts
pub mod Places
pub mod Sized
