use Rattle.std.proofs.Common.{◌∙◌, ◌++◌, sym, ap}
use Rattle.vl_scope.specs.Faults.{earliest}
use Rattle.vl_uses.specs.Nodes as n
use Rattle.vl_uses.specs.Walks.{faults, means}
use Rattle.vl_uses.proofs.Several.{faults-three}
use Rattle.vl_uses.proofs.StatementParts.{nodes-If}
use Rattle.vl_uses.proofs.statements.+statement.Goals as goal

pub note_statement-returns-in-If : goal.note_statement-returns-in-If
note_statement-returns-in-If t c =
    let m = means c.args.names.now in
    let k = c.args.setting in
    faults-three m _ _ _ c.args.best _ _ _ c.note_condition-best.ensures c.note_statement-best-in-If.ensures c.note_otherwise.ensures
    ∙ ap (λ a. earliest c.args.best (faults m (n.condition_nodes k c.in-If.condition ++ n.statement_nodes k a ++ n.given (n.statement_nodes k) c.in-If.otherwise))) c.get.ensures
    ∙ ap (λ a. earliest c.args.best (faults m a)) (sym (nodes-If k c.in-If.field-0 c.in-If.condition c.in-If.chosen c.in-If.otherwise) ∙ ap (n.statement_nodes k) (sym c.in-If.is))
