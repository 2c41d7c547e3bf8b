pub mod Arguments
pub mod Called
pub mod Cases
pub mod Kinds
pub mod Lists
pub mod Machines
pub mod Scopes
pub use Rattle.ten_files as ten_files
