pub mod Served
pub mod Traps
pub use Rattle.fmt_text.specs.vl_design as vl_design
pub use Rattle.cell_form as cell_form
pub use Rattle.ten_files as ten_files
