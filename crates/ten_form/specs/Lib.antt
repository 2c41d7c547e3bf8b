pub mod Registers
pub mod Nets
pub mod Banks
pub mod Asked
pub mod Traps
pub mod Works
pub mod Delays
pub mod States
pub mod Paired
pub mod Holding
pub mod Stores
pub use Rattle.vl_design as vl_design
pub use Rattle.cell_emit as cell_emit
pub use Rattle.sub_split.specs.sub_nodes as sub_nodes
pub use Rattle.sub_split as sub_split
pub use Rattle.trap_runtime as trap_runtime
pub use Rattle.vl_runs as vl_runs
