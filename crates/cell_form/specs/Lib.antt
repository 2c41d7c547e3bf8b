pub mod Cycle
pub mod Data
pub mod Sound
pub mod States
pub mod Values
pub mod Views
pub mod Writes
pub use Rattle.vl_base as vl_base
