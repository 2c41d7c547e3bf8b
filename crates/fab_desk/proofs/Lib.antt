pub mod Doing
pub mod Giving
pub mod Histories
pub mod Raising
pub mod Crosses
