pub mod Bodies
pub mod Rules
pub mod Seen
pub mod Headers
pub mod Triggers
pub mod Writers
pub mod Standing
pub mod Told
pub mod Written
pub mod Saves
pub mod SeenOfSaves
pub mod Recursion
pub mod Tables
pub mod Searches
pub mod Nets
pub mod Uses
pub use Rattle.vl_design as vl_design
pub use Rattle.vl_sites as vl_sites
