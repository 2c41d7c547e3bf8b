mod Loading
mod Over
mod Remains
mod Resting
pub mod Running
mod Same
mod Saving
pub mod Banking
pub mod Opening
pub mod Resuming
pub mod LoadingOfLoad
