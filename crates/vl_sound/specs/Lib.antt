pub mod Inputs
pub mod Naming
pub mod Widths
pub mod Apart
pub mod Instances
pub mod Levels
pub mod Used
pub mod Agreeing
pub mod Clocks
pub mod Bare
pub mod Sized
pub mod Meeting
pub use Rattle.vl_flat.specs.vl_base as vl_base
pub use Rattle.vl_flat.specs.vl_tree as vl_tree
pub use Rattle.vl_flat as vl_flat
pub use Rattle.vl_names.specs.vl_scope as vl_scope
pub use Rattle.vl_names.specs.vl_uses as vl_uses
pub use Rattle.vl_names as vl_names
