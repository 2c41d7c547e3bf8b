-- Tests.
use Rattle.std.proofs.Common.{◌≡◌, Bool, true, false, refl}
use Rattle.std.specs.Prelude.{◌||◌, ◌⊎◌}
use mathlib.Core.Logic.{inl, inr}
pub use Rattle.vl_paths.specs.vl_base.proofs.Booleans.{or_right_true as or_right, or_left_true as or_left, or_parts_false as or_false, true_or_false as either}

pub never : {A : Type 0} {b : Bool} → b ≡ true → b ≡ false → A
never g h = let z : ⊥ = cc in absurd z
