mod Storing
mod Waving
mod Stretching
mod Alone
mod Making
mod Trimming
mod Applying
mod Counting
pub mod Delaying
mod Narrowing
mod Finishing
mod Tabling
mod Asking
mod Noding
mod Wording
pub mod Marking
pub mod Fronting
pub mod Lengths
pub mod Counts
