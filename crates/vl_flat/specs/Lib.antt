pub mod Surface
pub mod Binding
pub mod Scopes
pub mod Constants
pub mod Expressions
pub mod ExpressionFaults
pub mod Targets
pub mod Statements
pub mod Items
pub mod Declarations
pub mod Uses
pub mod Kinds
pub mod Ranges
pub mod Parameters
pub mod Environments
pub mod Functions
pub mod Processes
pub mod Connections
pub mod Flat
pub mod Outcome
pub mod Examples
pub use Rattle.vl_design.specs.vl_base as vl_base
pub use Rattle.vl_design as vl_design
pub use Rattle.vl_tree as vl_tree
