pub mod Ledgers
pub mod Openings
pub mod Tries
pub use Rattle.fab_core.specs.ten_shell as ten_shell
pub use Rattle.fab_core.specs.ten_parcel as ten_parcel
pub use Rattle.fab_desk.specs.fab_bay as fab_bay
pub use Rattle.fab_orders as fab_orders
