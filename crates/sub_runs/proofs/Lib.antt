mod Passes
mod Cleared
pub mod Writes
mod Holding
pub mod Calls
pub mod Starting
mod Fine
mod Tidy
pub mod Parts
pub mod Regions
mod Comb
mod Cycles
mod Ways
mod Coming
mod Memories
mod Committed
mod Narrow
mod Signals
mod Sample
pub mod Leaving
pub mod Tabling
pub mod Cycling
pub mod Bounding
pub mod Ending
mod Going
pub mod Kept
mod Others
mod StartingOfAgain
mod Behind
mod Transport
