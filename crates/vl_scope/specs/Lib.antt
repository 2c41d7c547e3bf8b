pub mod Faults
pub mod Declarations
pub mod Scopes
pub mod DeclarationFaults
pub mod Keys
pub mod Marks
pub use Rattle.vl_base as vl_base
pub use Rattle.vl_tree as vl_tree
