mod Ordered
mod Neighbours
mod Kept
