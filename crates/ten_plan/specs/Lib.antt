pub mod Plans
pub mod Held
pub mod Written
pub use Rattle.vl_design.specs.vl_base as vl_base
pub use Rattle.vl_design as vl_design
pub use Rattle.snap_form as snap_form
