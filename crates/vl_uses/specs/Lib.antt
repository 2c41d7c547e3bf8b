pub mod Settings
pub mod Alone
pub mod Nodes
pub mod Calls
pub mod UseFaults
pub mod Walks
