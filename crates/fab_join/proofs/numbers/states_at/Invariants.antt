use Rattle.std.proofs.Common.{◌≡◌, map, take}
use Rattle.trap_runtime.specs.cell_form.specs.Views.{state_of}
use Rattle.fab_join.specs.Laid.{shape_of_span}
use Rattle.fab_join.specs.Numbers.{behind, numbered_state}
use Rattle.fab_join.proofs.numbers.states_at.Given as goal

abbrev pub invariant-loop-state : goal.invariant-loop-state
invariant-loop-state l = map state_of l.all.items ≡ map (numbered_state (behind (shape_of_span l.place))) (map state_of (take l.state-index l.states))
