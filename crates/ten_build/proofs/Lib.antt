mod Resuming
mod Building
mod Going
mod Sites
mod Nets
mod Whole
pub mod Signals
pub mod Rivals
pub mod Words
pub mod Writers
pub mod Tenants
