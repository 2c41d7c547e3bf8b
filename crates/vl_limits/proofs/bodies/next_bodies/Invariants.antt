use Rattle.std.proofs.Common.{◌≡◌, map, take}
use Rattle.vl_limits.specs.Bodies.{next_statements, next_nodes}
use Rattle.vl_limits.proofs.bodies.next_bodies.Given as goal

abbrev pub invariant-loop-func : goal.invariant-loop-func
invariant-loop-func l = record {
  few : l.all.statements.items ≡ map (next_statements l.signals l.before.statements.items) (take l.func-index l.funcs);
  many : l.all.nodes.items ≡ map (next_nodes l.signals l.before.statements.items l.before.nodes.items) (take l.func-index l.funcs);
}
