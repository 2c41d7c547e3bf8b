use Rattle.std.proofs.Common.{◌-◌}
use Rattle.vl_eval.specs.vl_design.specs.Trees.{flat_of}
use Rattle.vl_eval.specs.vl_design.specs.Width.{names_of}
use Rattle.vl_run.specs.Machines.{IsMachine}
use Rattle.plain_run.specs.Runs.{StandsAt, GoesOn}
use Rattle.plain_run.proofs.run.run_over.Given as goal

-- the machine stands at the boundary of its ticks, and no boundary before had a reason to end
abbrev pub invariant-ticks : goal.invariant-ticks
invariant-ticks l =
    let d = flat_of l.design in
    record {
      machine : IsMachine (names_of d) l.m;
      stands : StandsAt d l.files l.budget l.m.ticks l.m;
      goes_on : GoesOn d l.files l.budget l.m.ticks;
    }

abbrev pub decreases-ticks : goal.decreases-ticks
decreases-ticks l = l.budget - l.m.ticks
