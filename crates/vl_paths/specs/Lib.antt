pub mod Bits
pub mod Paths
pub mod Alike
pub mod Nets
pub mod Touched
pub mod Graph
pub use Rattle.vl_design.specs.vl_base as vl_base
pub use Rattle.vl_design as vl_design
