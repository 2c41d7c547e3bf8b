pub mod Reading
pub mod Steps
pub mod Kept
pub mod Writes
pub use Rattle.elab_laws as elab_laws
pub use Rattle.host_form.specs.fab_io as fab_io
pub use Rattle.host_form.specs.host_text as host_text
pub use Rattle.host_form as host_form
