pub mod Unroll
pub mod Fits
pub mod Examples
pub mod Placed
pub mod Limits
pub mod Rooms
pub mod Near
pub mod Heads
pub mod Loops
pub use Rattle.vl_base as vl_base
pub use Rattle.vl_design as vl_design
