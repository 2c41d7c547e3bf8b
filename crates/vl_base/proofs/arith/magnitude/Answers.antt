use Rattle.std.proofs.Common.{◌∙◌, sym}
use Rattle.vl_base.proofs.Wholes.{wrapped-negative, unsigned_abs-reading, above-zero}
use Rattle.vl_base.proofs.arith.magnitude.Goals as goal

pub returns-then-is_negative-clause-value : goal.returns-then-is_negative-clause-value
returns-then-is_negative-clause-value c =
    let top = sym c.is_negative.ensures ∙ c.if-is_negative.true in
    c.negative.ensures.value
    ∙ wrapped-negative c.args.a.width c.args.a.value (above-zero c.args.a.width c.args.a.value top) c.args.a.fits
    ∙ sym (unsigned_abs-reading c.args.signed c.args.a.width c.args.a.value c.if-signed.true top)
