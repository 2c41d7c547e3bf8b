use Rattle.vl_design.specs.Trees.{flat_of}
use Rattle.vl_cost.specs.Walks.{AreBodies}
use Rattle.vl_cost.proofs.bodies.rounds_of.Given as goal

abbrev pub invariant-loop-round : goal.invariant-loop-round
invariant-loop-round l = AreBodies (flat_of l.fn.design) l._round l.all.items
