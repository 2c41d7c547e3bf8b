-- Whole numbers by size and sign.
use Rattle.std.specs.Prelude.{ℤ, pos, neg_ℤ, if◌then◌else◌}
use Rattle.elab_constant.specs.declared.whole.Whole.{Whole}

abbrev pub whole_of : Whole → ℤ
whole_of w = if w.negative then neg_ℤ (pos w.size) else pos w.size
