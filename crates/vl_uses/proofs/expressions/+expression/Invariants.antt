use Rattle.std.proofs.Common.{◌≡◌, take}
use Rattle.std.specs.List.{flat_map}
use Rattle.vl_scope.specs.Faults.{earliest}
use Rattle.vl_uses.specs.Nodes as n
use Rattle.vl_uses.specs.Walks as w
use Rattle.vl_uses.proofs.expressions.+expression.Given as goal

abbrev pub invariant-note_expression-loop-link : goal.invariant-note_expression-loop-link
invariant-note_expression-loop-link l = l.best ≡ earliest l.initial.best (w.faults (w.means l.names) (flat_map (w.link_nodes l.setting) (take l.link-index l.link-items)))

abbrev pub invariant-note_expressions-loop-expression : goal.invariant-note_expressions-loop-expression
invariant-note_expressions-loop-expression l = l.best ≡ earliest l.initial.best (w.faults (w.means l.names) (flat_map (n.expression_nodes l.setting) (take l.expression-index l.expressions)))

abbrev pub invariant-note_selects-loop-select : goal.invariant-note_selects-loop-select
invariant-note_selects-loop-select l = l.best ≡ earliest l.initial.best (w.faults (w.means l.names) (flat_map (n.select_nodes l.setting) (take l.select-index l.selects)))

abbrev pub invariant-note_arguments-loop-argument : goal.invariant-note_arguments-loop-argument
invariant-note_arguments-loop-argument l = l.best ≡ earliest l.initial.best (w.faults (w.means l.names) (flat_map (w.argument_nodes l.setting l.load) (take l.argument-index l.arguments)))
