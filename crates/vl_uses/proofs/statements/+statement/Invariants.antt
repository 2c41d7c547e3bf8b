use Rattle.std.proofs.Common.{◌≡◌, take}
use Rattle.std.specs.List.{flat_map}
use Rattle.vl_scope.specs.Faults.{earliest}
use Rattle.vl_uses.specs.Nodes as n
use Rattle.vl_uses.specs.Walks as w
use Rattle.vl_uses.proofs.statements.+statement.Given as goal

abbrev pub invariant-note_statement-loop-statement : goal.invariant-note_statement-loop-statement
invariant-note_statement-loop-statement l = l.best ≡ earliest l.initial.best (w.faults (w.means l.names) (flat_map (n.statement_nodes l.setting) (take l.statement-index l.statement-items)))

abbrev pub invariant-note_case_items-loop-item : goal.invariant-note_case_items-loop-item
invariant-note_case_items-loop-item l = l.best ≡ earliest l.initial.best (w.faults (w.means l.names) (flat_map (n.case_nodes l.setting l.keyword) (take l.item-index l.items)))
