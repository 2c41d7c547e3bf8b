use Rattle.std.proofs.Common.{◌≡◌, map, take}
use Rattle.vl_cost.specs.Walks.{next_cells}
use Rattle.vl_cost.proofs.bodies.next_bodies.Given as goal

abbrev pub invariant-loop-func : goal.invariant-loop-func
invariant-loop-func l = l.all.items ≡ map (next_cells l.before) (take l.func-index l.funcs)
