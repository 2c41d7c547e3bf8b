use Rattle.std.proofs.Common.{ap, sym, ◌∙◌, subst}
use Rattle.vl_design.specs.Laws.{IsUnrolled}
use Rattle.vl_design.specs.Plainly.{flat}
use Rattle.vl_design.specs.Seen.{placed}
use Rattle.vl_accept.specs.vl_loops.proofs.Bare.{all_bare}
use Rattle.vl_accept.specs.vl_loops.proofs.Placing.{flat_plain}
use Rattle.vl_accept.proofs.Fitting.{unrolls}
use Rattle.check_rows.proofs.checking.judge.answer_to_design.Goals as goal

-- an accepted design has its loops unrolled
pub cost-requires : goal.cost-requires
cost-requires c =
    let d = placed c.args.design.now in
    let h = c.in-Ok.ensures in
    subst IsUnrolled (sym (ap flat h.design ∙ flat_plain d (unrolls d c.requires h.accepted.uses))) (all_bare (flat d))
