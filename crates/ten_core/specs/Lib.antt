pub mod Traps
pub mod Memory
pub mod Tenants
pub mod Runs
pub mod Begins
pub mod Running
pub mod Ports
pub mod Holding
pub mod Fronts
pub use Rattle.vl_design.specs.vl_base as vl_base
pub use Rattle.vl_design as vl_design
pub use Rattle.trap_runtime.specs.cell_form as cell_form
pub use Rattle.ten_files as ten_files
pub use Rattle.ten_form.specs.sub_nodes as sub_nodes
pub use Rattle.ten_form.specs.vl_runs as vl_runs
pub use Rattle.ten_form as ten_form
pub use Rattle.sub_runs as sub_runs
pub use Rattle.snap_form as snap_form
pub use Rattle.ten_plan as ten_plan
pub use Rattle.reg_ports as reg_ports
