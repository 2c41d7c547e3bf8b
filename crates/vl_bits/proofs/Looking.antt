-- What is read, step by step.
use Rattle.std.proofs.Common.{◌≡◌, ℕ, ◌+◌, ◌<◌, ◌≤◌, Bool, true, false, List, length, drop, get_or, refl, sym, ap, ◌∙◌, arith}
use Rattle.std.specs.Prelude.{◌||◌, ◌&&◌, not, ℤ, pos, neg_ℤ, ◌≤ℤ◌, ◌<ℤ◌, ◌+ℤ◌, ◌⊎◌, Option, Some, None, option_map, ◌==◌, int_le, int_lt}
use Rattle.std.proofs.lemmas.Grind.{common_steps}
use Rattle.std.proofs.lemmas.Int.{ints}
use mathlib.Core.Logic.{inl, inr}
use Rattle.vl_design.specs.Syntax.{Exp, Sig}
use Rattle.vl_design.specs.Width.{Names, signal_form}
use Rattle.vl_paths.specs.Bits.{Bit, is_among, is_of, select_reads, bit_read}
use Rattle.vl_bits.specs.Constants.{near}
use Rattle.vl_bits.proofs.Places.{near_below, near_above, near_among}
pub use Rattle.vl_base.proofs.Booleans.{or_comm as swapped, or_and_or as looked}
use Rattle.vl_paths.proofs.Writing.{among_high as among_place}

-- ---- the nearest place serves as well

outside : (b : Bit) (k : ℕ) (low : ℤ) (w : ℕ) → (pos b.place <ℤ low) ⊎ ((low +ℤ pos w) ≤ℤ pos b.place) → is_among b k low w ≡ false
outside b k low w h = grind (arith, ints)

-- ---- one after another: r is read, n not known

pub looked_none : (r n : Bool) → r ≡ (r || (n && false))
looked_none true n = refl
looked_none false true = refl
looked_none false false = refl
