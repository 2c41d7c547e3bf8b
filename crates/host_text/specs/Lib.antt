pub mod Words
pub mod Statements
pub mod Seen
pub mod Report
pub mod Readable
pub mod Scripts
pub mod Causes
pub mod Reading
pub mod Drafts
pub mod Laws
pub use Rattle.ten_plan.specs.vl_base as vl_base
pub use Rattle.ten_plan.specs.vl_design as vl_design
pub use Rattle.ten_plan.specs.snap_form as snap_form
pub use Rattle.ten_plan as ten_plan
