use Rattle.std.proofs.Common.{ap, sym, ◌∙◌, ◌++◌}
use Rattle.elab_plain.specs.vl_flat.specs.ExpressionFaults.{faults}
use Rattle.elab_plain.specs.vl_flat.specs.Ranges.{type_faults}
use Rattle.elab_plain.specs.vl_flat.specs.Scopes.{plainly}
use Rattle.vl_design.specs.Stops.{earliest}
use Rattle.elab_plain.specs.SeenItems.{seen_type, seen_parameter}
use Rattle.elab_constant.specs.Seen.{look}
use Rattle.vl_design.proofs.Earliest.{earliest-append}
use Rattle.vl_elab.proofs.Judged.{default-judged}
use Rattle.vl_elab.proofs.faults.parameter_faults.Goals as goal

pub returns-else-overridden : goal.returns-else-overridden
returns-else-overridden c = λ given h.
    let env = look c.args.names.now in
    let a = seen_parameter c.args.a.now in
    let t = type_faults env (seen_type c.args.kind.now) a.name.place in
    c.faults.ensures
    ∙ (ap (λ s. earliest c.type_faults-best.result (faults s a.value)) c.module_scope.ensures
    ∙ (ap (λ z. earliest z (faults (plainly env) a.value)) c.type_faults-best.ensures
    ∙ (sym (earliest-append c.args.best t (faults (plainly env) a.value))
    ∙ ap (λ z. earliest c.args.best (t ++ z)) (default-judged env given a (h ∙ c.if-overridden.false)))))
