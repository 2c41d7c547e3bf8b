pub mod Marks
pub mod Views
pub mod Makes
pub mod Items
pub mod Waves
pub use Rattle.vl_sites as vl_sites
pub use Rattle.sub_nodes as sub_nodes
