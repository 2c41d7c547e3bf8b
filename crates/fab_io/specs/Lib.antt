pub mod Calls
pub mod Memory
pub mod Missing
pub mod Outside
