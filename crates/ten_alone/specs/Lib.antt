pub mod Alone
pub use Rattle.ten_shell as ten_shell
