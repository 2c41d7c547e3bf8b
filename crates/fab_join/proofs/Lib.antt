pub mod Grown
pub mod Joining
pub mod Laid
pub mod MovedTraps
pub mod PartCycles
pub mod PartTraps
pub mod Renumbered
