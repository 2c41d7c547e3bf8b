pub mod Designs
pub mod Cells
pub mod Widths
pub mod Segments
pub mod Pieces
pub mod Mades
pub mod Ended
pub mod Trims
pub mod Tables
pub mod Marks
pub use Rattle.cell_emit as cell_emit
pub use Rattle.cell_expr as cell_expr
pub use Rattle.cell_calls as cell_calls
pub use Rattle.cell_trim as cell_trim
pub use Rattle.cell_waves as cell_waves
