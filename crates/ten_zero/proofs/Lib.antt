pub mod Acting
pub mod Queues
pub mod Behind
pub mod Walking
