pub mod Nets
pub mod Tidy
pub mod Memories
pub mod Left
pub mod Again
pub use Rattle.vl_sites as vl_sites
pub use Rattle.sub_nodes as sub_nodes
pub use Rattle.vl_runs.specs.vl_paths as vl_paths
pub use Rattle.vl_runs as vl_runs
