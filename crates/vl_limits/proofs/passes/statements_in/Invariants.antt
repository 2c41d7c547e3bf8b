use Rattle.vl_limits.specs.Bodies.{next_statements, rounds, AtMost}
use Rattle.vl_limits.proofs.passes.statements_in.Given as goal

abbrev pub invariant-loop-index : goal.invariant-loop-index
invariant-loop-index l = AtMost l.table.items (rounds (next_statements l.signals) l.funcs l.index)
