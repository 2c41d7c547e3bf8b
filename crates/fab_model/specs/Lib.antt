pub mod Points
pub mod Fabrics
pub mod Worlds
pub mod Several
pub mod Ends
pub mod Stays
pub mod Deeds
pub mod Histories
pub mod Tokens
pub mod Origins
pub mod Moves
pub use Rattle.ten_core.specs.snap_form as snap_form
pub use Rattle.ten_core.specs.ten_plan as ten_plan
pub use Rattle.fab_lock as fab_lock
pub use Rattle.ten_core as ten_core
pub use Rattle.ten_parcel.specs.ten_zero as ten_zero
pub use Rattle.ten_parcel as ten_parcel
