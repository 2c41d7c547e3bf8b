pub mod Judged
pub mod Deciding
pub use Rattle.ten_core as ten_core
pub use Rattle.host_files.specs.host_text as host_text
pub use Rattle.host_files.specs.host_form as host_form
