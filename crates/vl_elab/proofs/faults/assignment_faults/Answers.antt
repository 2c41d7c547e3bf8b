use Rattle.std.proofs.Common.{ap, sym, ◌∙◌, ◌++◌}
use Rattle.elab_plain.specs.vl_flat.specs.ExpressionFaults.{faults}
use Rattle.elab_plain.specs.vl_flat.specs.Targets.{target_faults}
use Rattle.vl_design.specs.Stops.{earliest}
use Rattle.elab_plain.specs.Seen.{seen}
use Rattle.elab_plain.specs.SeenStatements.{seen_left}
use Rattle.elab_constant.specs.Seen.{seen_scope}
use Rattle.vl_design.proofs.Earliest.{earliest-append}
use Rattle.vl_elab.proofs.faults.assignment_faults.Goals as goal

pub returns : goal.returns
returns c =
    let s = seen_scope c.module_scope-scope.result in
    let l = seen_left c.args.a.now.target in
    let e = seen c.args.a.now.value in
    c.faults.ensures
    ∙ (ap (λ z. earliest z (faults s e)) c.target_faults-best.ensures
    ∙ (sym (earliest-append c.args.best (target_faults s l) (faults s e))
    ∙ ap (λ z. earliest c.args.best (target_faults z l ++ faults z e)) c.module_scope-scope.ensures))
