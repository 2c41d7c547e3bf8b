pub mod Sources
pub use Rattle.vl_elab.specs.vl_base as vl_base
pub use Rattle.vl_elab.specs.vl_design as vl_design
pub use Rattle.vl_accept as vl_accept
