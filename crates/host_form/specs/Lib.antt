pub mod Origins
pub mod Histories
pub mod Orders
pub mod Runs
pub mod Replies
pub mod Reports
pub mod Saves
pub mod Laws
pub mod Examples
pub use Rattle.fab_io as fab_io
pub use Rattle.host_text as host_text
