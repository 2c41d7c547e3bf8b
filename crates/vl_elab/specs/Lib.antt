pub mod Growing
pub mod Standing
pub mod Parts
pub mod Libraries
pub mod Insides
pub mod Terms
pub use Rattle.vl_design.specs.vl_base as vl_base
pub use Rattle.vl_design as vl_design
pub use Rattle.vl_sound as vl_sound
