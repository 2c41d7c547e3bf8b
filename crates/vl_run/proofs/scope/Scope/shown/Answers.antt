use Rattle.std.proofs.Common.{◌≡◌, subst}
use Rattle.std.specs.Prelude.{IfOk}
use Rattle.vl_design.specs.Value.{own_value}
use Rattle.vl_eval.specs.Rooms.{sample_of}
use Rattle.vl_run.specs.Scopes.{scope_of}
use Rattle.vl_run.proofs.Operands.{operand-value}
use Rattle.vl_run.proofs.scope.Scope.shown.Goals as goal

pub returns-in-Value-clause-value : goal.returns-in-Value-clause-value
returns-in-Value-clause-value g c =
    subst (λ e. IfOk c.shown_value.result (λ o. o.bits.value ≡ own_value (scope_of c.args.self.now) (sample_of c.args.s.now) e))
    (operand-value c.args.args.now c.first-item.result c.in-Value.e c.in-len1-up.len_at_least c.first-item.is c.in-Value.is) c.shown_value.ensures.value
