pub mod Desks
pub use Rattle.fab_bay as fab_bay
