use Rattle.vl_limits.specs.Bodies.{rounds, AtMost}
use Rattle.vl_cost.specs.Walks.{next_cells}
use Rattle.vl_cost.proofs.passes.passed.Given as goal

abbrev pub invariant-loop-index : goal.invariant-loop-index
invariant-loop-index l = AtMost l.table.items (rounds next_cells l.funcs l.index)
