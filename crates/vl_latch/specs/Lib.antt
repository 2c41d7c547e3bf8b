pub mod Partly
pub mod Faults
pub use Rattle.vl_base as vl_base
