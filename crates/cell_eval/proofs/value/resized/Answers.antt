use Rattle.std.proofs.Common.{◌∙◌, ap, ◌%◌, ◌^◌, true}
use Rattle.vl_base.specs.Value.{reading}
use Rattle.vl_base.proofs.Wrapping.{wrapped-cut}
use Rattle.cell_eval.proofs.value.resized.Goals as goal

pub returns-then-signed : goal.returns-then-signed
returns-then-signed c =
    let all = c.cut.ensures ∙ ap (λ n. n % 2 ^ c.args.width) c.extended.ensures
    ∙ wrapped-cut (reading true c.args.bits.width c.args.bits.value) c.args.width 128 c.requires in
    rw c.if-signed.true all
