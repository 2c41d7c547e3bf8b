use Rattle.std.proofs.Common.{◌<◌, length, get_or, ap, ◌∙◌, arith}
use Rattle.trap_runtime.specs.cell_form.specs.Sound.{shape_of}
use Rattle.trap_runtime.specs.cell_form.specs.Views.{bank_of}
use Rattle.fab_join.proofs.PartCycles.{state_may_run}
use Rattle.fab_join.proofs.stepping.cycle_present.Goals as goal

pub cycle-requires : goal.cycle-requires
cycle-requires c =
    let xs = c.args.table.now.states in
    let k = c.index-present.result.now in
    let x = c.index-states-present.result in
    let same = c.as_slice-states.ensures in
    let lt : k < length xs = omega (arith, ap length same, c.if-present-states.true) in
    state_may_run xs k x lt (c.index-states-present.is ∙ ap (λ ys. get_or ys k x) same) (shape_of (bank_of c.args.bank.now)) c.requires.states
