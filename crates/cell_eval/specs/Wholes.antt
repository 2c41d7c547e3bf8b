-- Whole numbers by size and sign, and the places of bits that lie outside a value (IEEE 1364-2005, clause 5.2.1).
use Rattle.std.specs.Prelude.{min, ℤ, pos, negsuc, neg_ℤ, if◌then◌else◌}
use Rattle.cell_eval.specs.declared.selects.Whole.{Whole}

abbrev pub whole_of : Whole → ℤ
whole_of w = if w.negative then neg_ℤ (pos w.size) else pos w.size

-- a place, or the last one of the same side that is far from each value
abbrev pub near : ℤ → ℤ
near (pos n) = pos (min n 128)
near (negsuc n) = negsuc (min n 128)
