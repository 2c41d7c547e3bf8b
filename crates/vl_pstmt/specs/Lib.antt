pub mod Limits
pub mod Nests
pub mod Parts
pub use Rattle.vl_pexpr as vl_pexpr
