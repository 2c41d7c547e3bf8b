use Rattle.std.proofs.Common.{◌∙◌, ap, ◌%◌, ◌^◌}
use Rattle.vl_base.specs.Value.{reading}
use Rattle.vl_base.proofs.Wrapping.{wrapped-cut}
use Rattle.vl_base.proofs.bits.resize.Goals as goal

pub returns-clause-value : goal.returns-clause-value
returns-clause-value c =
    c.lowest.ensures ∙ ap (λ n. n % 2 ^ c.args.width) c.widened.ensures
    ∙ wrapped-cut (reading c.args.signed c.args.a.width c.args.a.value) c.args.width 128 c.requires.narrow
