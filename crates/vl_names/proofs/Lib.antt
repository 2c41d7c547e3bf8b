pub mod Steps
pub mod Walks
pub mod Bounded
pub mod Graph
pub mod Listed
pub mod Whole
pub mod Sound
pub mod Unmarked
