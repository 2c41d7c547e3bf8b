-- Writes that aren't wanted.
use Rattle.std.proofs.Common.{◌≡◌, refl, Bool, true, false, ◌&&◌}
pub use Rattle.cell_emit.specs.vl_base.proofs.Booleans.{and_false_right as unwanted}
