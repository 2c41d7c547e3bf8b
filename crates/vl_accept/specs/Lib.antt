pub mod Built
pub mod Fit
pub mod Accepted
pub mod Orders
pub mod Stopping
pub use Rattle.vl_check.specs.vl_sites as vl_sites
pub use Rattle.vl_runs.specs.vl_paths as vl_paths
pub use Rattle.vl_runs as vl_runs
pub use Rattle.cell_level.specs.vl_bits as vl_bits
pub use Rattle.vl_unroll.specs.vl_loops as vl_loops
pub use Rattle.vl_check as vl_check
