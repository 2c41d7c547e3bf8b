pub mod Berths
pub mod Standing
pub mod Marks
pub mod Ways
pub mod Refusals
pub mod Taking
pub mod Nearness
pub mod Rounds
pub mod Acts
pub use Rattle.vl_design as vl_design
pub use Rattle.ten_core.specs.ten_plan as ten_plan
pub use Rattle.fab_core.specs.fab_lock as fab_lock
pub use Rattle.ten_core as ten_core
pub use Rattle.fab_core.specs.ten_parcel as ten_parcel
pub use Rattle.fab_core.specs.fab_model as fab_model
pub use Rattle.fab_core as fab_core
