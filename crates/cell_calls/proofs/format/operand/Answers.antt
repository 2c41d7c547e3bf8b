use Rattle.std.proofs.Common.{subst}
use Rattle.std.specs.Prelude.{IfOk}
use Rattle.vl_design.specs.Trees.{flat_of}
use Rattle.vl_run.proofs.Operands.{operand-value}
use Rattle.cell_emit.specs.cell_form.specs.Views.{list_of}
use Rattle.cell_emit.specs.Envs.{env_of}
use Rattle.cell_calls.specs.Displays.{IsOwn}
use Rattle.cell_calls.proofs.format.operand.Goals as goal

pub returns-in-Value-clause-gives : goal.returns-in-Value-clause-gives
returns-in-Value-clause-gives c =
    subst (λ e. IfOk c.own_value.result (λ r. IsOwn (flat_of c.args.site.design.now) e (env_of c.args.site.at.now) (list_of c.args.cells.now) (list_of c.own_value.new.cells) r))
    (operand-value c.args.args.now c.first-item.result c.in-Value.e c.in-len1-up.len_at_least c.first-item.is c.in-Value.is) c.own_value.ensures.gives
