use Rattle.std.proofs.Common.{◌≡◌, ◌∙◌, sym, arith}
use Rattle.std.proofs.lemmas.Int.{ints}
use Rattle.vl_loops.proofs.Nears.{near-reading}
use Rattle.vl_loops.proofs.selects.reading.Goals as goal

pub returns-then-is_negative-clause-near : goal.returns-then-is_negative-clause-near
returns-then-is_negative-clause-near c =
    near-reading c.args.index.width c.args.index.value c.unary.result.value c.args.signed c.sized.result _ c.if-signed.true
    (sym c.is_negative.ensures ∙ c.if-is_negative.true) c.args.index.fits c.unary.ensures.value c.sized.ensures (omega (arith, ints, c.sized.ensures))
