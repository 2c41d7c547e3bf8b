use Rattle.std.proofs.Common.{sym}
use Rattle.trap_runtime.specs.cell_form.specs.Views.{state_of}
use Rattle.ten_core.proofs.states.step.Goals as goal

pub cycle-requires : goal.cycle-requires
cycle-requires c = c.requires.list (state_of c.in-Some.state.now) (sym c.in-Some.ensures)
