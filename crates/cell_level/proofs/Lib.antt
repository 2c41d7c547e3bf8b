pub mod Netted
pub mod Transport
pub mod Marking
pub mod Ways
pub mod Search
pub mod Walk
pub mod Users
pub mod Edges
