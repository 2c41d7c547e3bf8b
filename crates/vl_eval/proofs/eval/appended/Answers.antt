use Rattle.std.proofs.Common.{◌≡◌, ◌+◌, ◌^◌, ◌≤◌, ◌<◌, refl, arith}
use Rattle.std.proofs.Math.Pow.{pow_mono}
use Rattle.std.proofs.lemmas.Nat.{shl_whole}
use Rattle.vl_base.proofs.Parts.{joined-below}
use Rattle.vl_eval.proofs.eval.appended.Goals as goal

pub overflow_add-result : goal.overflow_add-result
overflow_add-result c =
    let a = c.args in
    let narrow : a.above + a.width ≤ 128 = c.requires.narrow in
    let whole = shl_whole a.high a.above a.width 128 c.requires.high narrow in
    let below = joined-below a.high a.low a.above a.width c.requires.high c.requires.low in
    let mono : 2 ^ (a.above + a.width) ≤ 2 ^ 128 = pow_mono {j = 128} narrow in
    omega (arith, whole, below, mono)

pub returns-then-width-lt128 : goal.returns-then-width-lt128
returns-then-width-lt128 c =
    let a = c.args in
    let whole = shl_whole a.high a.above a.width 128 c.requires.high c.requires.narrow in
    record {
      value = rw whole refl;
      fits = rw whole (joined-below a.high a.low a.above a.width c.requires.high c.requires.low);
    }

pub returns-else-width-lt128 : goal.returns-else-width-lt128
returns-else-width-lt128 c =
    let a = c.args in
    let zero : a.above ≡ 0 = omega arith in
    let high = rw zero at c.requires.high in
    let none : a.high ≡ 0 = omega arith in
    let low : a.low < 2 ^ a.width = c.requires.low in
    let same : a.above + a.width ≡ a.width = omega arith in
    record { value = rw none (omega arith); fits = rw same low }
