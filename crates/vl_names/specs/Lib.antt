pub mod Modules
pub mod Connections
pub mod HierarchyFaults
pub mod NameFaults
pub mod Seen
pub mod Walks
pub use Rattle.vl_scope as vl_scope
pub use Rattle.vl_uses as vl_uses
