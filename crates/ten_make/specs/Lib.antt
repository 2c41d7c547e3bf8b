pub mod Within
pub mod Slack
pub mod Designs
pub use Rattle.cell_states.specs.cell_emit as cell_emit
pub use Rattle.cell_states.specs.cell_expr as cell_expr
pub use Rattle.cell_states as cell_states
pub use Rattle.ten_core as ten_core
