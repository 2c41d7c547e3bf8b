pub mod Tables
pub use Rattle.vl_base as vl_base
pub use Rattle.fmt_text.specs.vl_design as vl_design
