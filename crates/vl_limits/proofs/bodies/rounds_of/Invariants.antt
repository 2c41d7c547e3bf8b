use Rattle.vl_design.specs.Seen.{placed}
use Rattle.vl_limits.specs.Bodies.{AreBodies}
use Rattle.vl_limits.proofs.bodies.rounds_of.Given as goal

abbrev pub invariant-loop-round : goal.invariant-loop-round
invariant-loop-round l = AreBodies (placed l.fn.design) l._round l.all.statements.items l.all.nodes.items
