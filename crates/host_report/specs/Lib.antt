pub mod Told
pub mod Ends
pub mod Endings
pub mod Orders
pub mod Telling
pub use Rattle.fab_model as fab_model
