pub mod Levelling
pub mod Netting
pub mod Cycles
pub mod Nets
pub mod Tables
pub mod Walks
pub use Rattle.vl_bits as vl_bits
