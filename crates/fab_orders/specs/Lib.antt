pub mod Orders
pub mod Outcomes
pub mod Starts
pub mod Totals
pub use Rattle.fab_desk.specs.fab_bay.specs.ten_plan as ten_plan
pub use Rattle.fab_desk.specs.fab_bay.specs.fab_lock as fab_lock
pub use Rattle.fab_desk.specs.fab_bay.specs.ten_parcel as ten_parcel
pub use Rattle.fab_desk.specs.fab_bay as fab_bay
