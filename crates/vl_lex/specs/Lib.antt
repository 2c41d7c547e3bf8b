pub mod Answers
pub mod Laws
pub mod Reading
pub mod View
pub use Rattle.vl_tree as vl_tree
