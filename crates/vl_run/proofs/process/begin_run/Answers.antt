use Rattle.std.proofs.Common.{◌≡◌, ap, ◌∙◌}
use Rattle.vl_design.specs.Functions.{fresh, zeros}
use Rattle.vl_design.specs.Trees.{flat_of}
use Rattle.vl_design.specs.Width.{Names, names_of}
use Rattle.vl_design.proofs.Fine.{zeros_fine}
use Rattle.vl_run.specs.Machines.{state_of}
use Rattle.vl_run.proofs.Bodies.{begins}
use Rattle.vl_run.proofs.process.begin_run.Goals as goal

pub returns-clause-machine : goal.returns-clause-machine
returns-clause-machine c =
    let names = names_of (flat_of c.args.design.now) in
    let m = c.fresh_machine.result in
    let state : state_of m 0 ≡ fresh (zeros names.rows) =
    c.fresh_machine.ensures.state ∙ ap fresh (c.in_ok-values.ensures ∙ ap (λ (n : Names). zeros n.rows) c.room_of.ensures.names) in
    begins names m (zeros names.rows) state c.fresh_machine.ensures.later (zeros_fine names.rows)
