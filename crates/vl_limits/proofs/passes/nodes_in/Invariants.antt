use Rattle.std.proofs.Common.{◌≡◌, map}
use Rattle.vl_limits.specs.Bodies.{next_statements, next_nodes, rounds, AtMost}
use Rattle.vl_limits.proofs.passes.nodes_in.Given as goal

abbrev pub invariant-loop-index : goal.invariant-loop-index
invariant-loop-index l = l.statements ≡ map (next_statements l.signals l.statements) l.funcs → AtMost l.table.items (rounds (next_nodes l.signals l.statements) l.funcs l.index)
