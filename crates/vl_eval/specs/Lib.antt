pub mod Answers
pub mod Rooms
pub mod Shapes
pub mod Wholes
pub mod Spots
pub mod Updates
pub use Rattle.vl_base as vl_base
pub use Rattle.vl_design as vl_design
