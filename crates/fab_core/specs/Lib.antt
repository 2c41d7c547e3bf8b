pub mod Alone
pub mod Memory
pub mod Refusals
pub mod Standing
pub use Rattle.vl_design.specs.vl_base as vl_base
pub use Rattle.vl_design as vl_design
pub use Rattle.ten_core.specs.cell_form as cell_form
pub use Rattle.ten_core.specs.sub_nodes as sub_nodes
pub use Rattle.ten_core.specs.ten_plan as ten_plan
pub use Rattle.fab_model.specs.fab_lock as fab_lock
pub use Rattle.ten_core as ten_core
pub use Rattle.ten_shell as ten_shell
pub use Rattle.fab_model.specs.ten_zero as ten_zero
pub use Rattle.fab_model.specs.ten_parcel as ten_parcel
pub use Rattle.fab_model as fab_model
pub use Rattle.fab_join as fab_join
