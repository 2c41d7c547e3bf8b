use Rattle.std.proofs.Common.{◌≡◌, map, take}
use Rattle.elab_plain.specs.vl_flat.specs.Surface as x
use Rattle.elab_plain.specs.vl_flat.specs.Binding as f
use Rattle.elab_plain.specs.SeenStatements as s
use Rattle.elab_bind.proofs.statements.+statements.Given as goal

abbrev pub invariant-bind_statements-loop-a : goal.invariant-bind_statements-loop-a
invariant-bind_statements-loop-a l = map s.seen_statement l.all.items ≡ map f.statement (take l.a-index l.parts)

abbrev pub invariant-bind_items-loop-a : goal.invariant-bind_items-loop-a
invariant-bind_items-loop-a l = (o : x.CaseItems) → s.items_before l.all.items o ≡ s.trees_before (take l.a-index l.items) o
