pub mod Pushes
pub mod Slots
pub mod Counts
pub mod Cases
pub mod Differs
pub mod Envs
pub mod Paths
pub mod Entries
pub mod Reads
pub mod Delays
pub mod Pendings
pub use Rattle.vl_base as vl_base
pub use Rattle.cell_form as cell_form
pub use Rattle.vl_sites as vl_sites
