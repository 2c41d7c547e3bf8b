pub mod Seen
pub mod Constants
pub mod Masks
pub mod Cases
pub mod Walks
pub mod Drivers
pub mod SeenOfDrivers
pub use Rattle.vl_base as vl_base
pub use Rattle.vl_design as vl_design
pub use Rattle.vl_paths as vl_paths
