pub mod Parcels
pub mod Ways
pub mod Lists
pub mod Banks
pub mod Loads
pub use Rattle.ten_shell as ten_shell
pub use Rattle.ten_zero as ten_zero
