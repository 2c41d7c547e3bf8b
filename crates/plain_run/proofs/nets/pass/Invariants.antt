use Rattle.std.proofs.Common.{drop}
use Rattle.vl_eval.specs.vl_design.specs.Trees.{flat_of}
use Rattle.vl_eval.specs.vl_design.specs.Width.{names_of}
use Rattle.vl_run.specs.Machines.{IsMachine}
use Rattle.plain_run.proofs.Passing.{Passed}
use Rattle.plain_run.proofs.nets.pass.Given as goal

-- the pass has come so far that the rest of the list is left
abbrev pub invariant-loop-number : goal.invariant-loop-number
invariant-loop-number l =
    let d = flat_of l.design in
    record {
      machine : IsMachine (names_of d) l.m;
      passed : Passed d l.files l.order (drop l.number-index l.order) l.initial.m l.m;
    }
