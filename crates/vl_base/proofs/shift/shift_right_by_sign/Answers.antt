use Rattle.std.proofs.Common.{◌≡◌, ◌+◌, ◌-◌, ◌/◌, ◌^◌, min, false, ◌∙◌, refl, sym, arith}
use Rattle.std.specs.Prelude.{◌&&◌}
use Rattle.vl_base.specs.Value.{is_negative}
use Rattle.vl_base.proofs.Shifts.{right-below, unsigned-right, signed-right}
use Rattle.vl_base.proofs.shift.shift_right_by_sign.Goals as goal
use Rattle.vl_base.proofs.shift.shift_right_by_sign.Goals.{else-signed-via-then-signed+else-is_negative, else-signed-via-else-signed}

pub filled-requires-clause-fits : goal.filled-requires-clause-fits
filled-requires-clause-fits c =
    rw (c.bits_kept.ensures, c.shift_right-shifted.ensures.value)
    (right-below c.args.a.value c.args.amount c.args.a.width c.args.a.fits)

pub returns-then-is_negative-clause-value : goal.returns-then-is_negative-clause-value
returns-then-is_negative-clause-value c =
    let w = c.args.a.width in
    let top = sym c.is_negative.ensures ∙ c.if-is_negative.true in
    let sum : c.filled.result.value + 2 ^ (w - c.args.amount) ≡ c.args.a.value / 2 ^ min c.args.amount w + 2 ^ w
    = rw (← c.bits_kept.ensures) (c.filled.ensures.value ∙ rw (c.shift_right-shifted.ensures.value, c.shift_right-shifted.ensures.width) refl) in
    let same = signed-right c.args.signed w c.args.a.value c.args.amount c.args.a.fits c.if-signed.true top in
    omega (arith, sum, same)

pub returns-else-signed-clause-value : goal.returns-else-signed-clause-value
returns-else-signed-clause-value c =
    let plain : (c.args.signed && is_negative c.args.a.width c.args.a.value) ≡ false
    = elim c.else-signed.branch [ else-signed-via-then-signed+else-is_negative w ↦ grind arith | else-signed-via-else-signed w ↦ grind arith ] in
    c.shift_right-shifted.ensures.value
    ∙ sym (unsigned-right c.args.signed c.args.a.width c.args.a.value (min c.args.amount c.args.a.width) c.args.a.fits plain)
