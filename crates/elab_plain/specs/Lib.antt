pub mod Seen
pub mod Listed
pub mod SeenStatements
pub mod SeenItems
pub use Rattle.vl_tree.specs.vl_base as vl_base
pub use Rattle.vl_flat.specs.vl_design as vl_design
pub use Rattle.vl_tree as vl_tree
pub use Rattle.vl_flat as vl_flat
