pub mod Queue
pub mod Nets
pub mod NetsOfSettle
pub mod Checked
pub mod Runs
pub mod Sample
pub mod Computed
pub mod Log
pub mod Blocks
pub mod SampleOfActs
pub use Rattle.vl_paths as vl_paths
