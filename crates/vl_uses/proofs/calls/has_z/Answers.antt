use Rattle.std.proofs.Common.{◌≡◌, ℕ, ◌-◌, ◌^◌, ◌<◌, true, not, nat_eq, arith}
use Rattle.std.proofs.lemmas.Bool.Decides.{nat_tests}
use Rattle.std.proofs.Math.Pow.{pow-lt}
use Rattle.vl_uses.proofs.calls.has_z.Goals as goal

wide : (a w : ℕ) → a < 2 ^ 128 → 128 < w → true ≡ not (nat_eq a (2 ^ w - 1))
wide a w h k = let p = pow-lt k in grind (arith, nat_tests)

pub returns-then-width-gt128 : goal.returns-then-width-gt128
returns-then-width-gt128 c = wide _ _ (omega arith) c.if-width-gt128.true
