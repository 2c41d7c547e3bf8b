pub mod Bodies
pub mod Callers
pub mod Chosen
pub mod Compiled
pub mod Contexts
pub mod Counts
pub mod Items
pub mod Labels
pub mod Passes
pub mod Spots
pub mod Words
pub mod Slack
pub use Rattle.vl_paths as vl_paths
