pub mod Sites
pub mod Seen
pub mod Lists
pub mod Own
pub mod Stored
pub mod Answers
pub mod Behind
pub mod Others
pub use Rattle.vl_base as vl_base
pub use Rattle.vl_design as vl_design
