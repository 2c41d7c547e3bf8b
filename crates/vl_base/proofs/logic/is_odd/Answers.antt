use Rattle.std.proofs.Common.{◌∙◌, sym}
use Rattle.std.specs.Int.Count.{ones}
use Rattle.vl_base.proofs.Parities.{parity-ones, truth-odd}
use Rattle.vl_base.proofs.logic.is_odd.Goals as goal

pub returns : goal.returns
returns c =
    truth-odd (ones c.args.a.value) ∙ sym (parity-ones c.args.a.width c.args.a.value c.args.a.fits)
