use Rattle.std.proofs.Common.{map}
use Rattle.elab_plain.specs.SeenItems.{seen_module}
use Rattle.vl_sound.specs.Apart.{AreApart}
use Rattle.vl_sound.proofs.Lists.{at-holds}
use Rattle.vl_elab.proofs.Ends.{ends, met}
use Rattle.vl_elab.proofs.Unnumbered.{unnumbered-fault}
use Rattle.vl_elab.proofs.elaborate.vast_fault.Goals as goal

pub returns-in_err-made_unnumbered : goal.returns-in_err-made_unnumbered
returns-in_err-made_unnumbered c = λ m there apart.
    let ms = map seen_module c.args.modules.now in
    let stop = c.in_err-made_unnumbered.field-0.0 in
    met c.from_residual.result stop _ c.from_residual.ensures (λ e h. h)
    (ends stop ms m (unnumbered-fault stop ms m apart (at-holds AreApart ms c.args.number m apart there) (c.in_err-made_unnumbered.ensures m there)))
