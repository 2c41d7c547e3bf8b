pub mod Calls
pub mod Early
pub mod Nodes
pub use Rattle.plain_run as plain_run
