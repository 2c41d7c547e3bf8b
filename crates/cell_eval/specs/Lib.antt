pub mod Holds
pub mod Wholes
pub use Rattle.vl_base as vl_base
