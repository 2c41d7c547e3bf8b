pub mod Placing
pub mod Serving
pub mod Answering
pub mod Doing
mod Cycling
pub mod Naming
pub mod Apart
pub mod Cutting
pub mod Keeping
pub mod Waves
pub mod Same
