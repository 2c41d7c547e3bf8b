pub mod Bodies
pub mod Passing
pub mod Events
pub mod Waves
pub mod Boundaries
