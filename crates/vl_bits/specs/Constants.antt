-- Constants in indices (IEEE 1364-2005, clauses 4.1.3 and 5.2.1).
use Rattle.std.specs.Prelude.{◌≡◌, ℕ, ◌≤◌, ℤ, pos, neg_ℤ, int_lt, false, if◌then◌else◌}
use Rattle.vl_design.specs.declared.design.Form.{Form}
use Rattle.vl_design.specs.Syntax.{Exp, Exps}
use Rattle.vl_design.specs.Nodes.{has, some_have}
use Rattle.vl_design.specs.Width.{Names, form, total_width}
use Rattle.vl_design.specs.Sound.{IsSoundExp, AreSound, IsWidth}
use Rattle.vl_paths.specs.Bits.{varies}
use Rattle.vl_bits.specs.declared.wholes.Whole.{Whole}

abbrev pub whole_of : Whole → ℤ
whole_of w = if w.negative then neg_ℤ (pos w.size) else pos w.size

-- a place among bits, or the nearest one that is beside all of 128
abbrev pub near : ℤ → ℤ
near z = if int_lt z (neg_ℤ (pos 128)) then neg_ℤ (pos 128) else (if int_lt (pos 128) z then pos 128 else z)

-- an expression without names, each of its parts of 1 to 128 bits
pub record IsConstant (names : Names) (e : Exp) : Type 0 where
  pub constant : has varies e ≡ false
  pub sound : IsSoundExp names e

-- expressions without names that stand side by side in 1 to 128 bits
pub record AreParts (names : Names) (es : Exps) : Type 0 where
  pub constant : some_have varies es ≡ false
  pub sound : AreSound names es
  pub width : IsWidth (total_width names es)

-- such an expression in a context that is as wide as it, or wider
pub record IsReadable (names : Names) (e : Exp) (c : Form) : Type 0 where
  pub constant : has varies e ≡ false
  pub sound : IsSoundExp names e
  pub wide : (form names e).width ≤ c.width
  pub narrow : c.width ≤ 128
