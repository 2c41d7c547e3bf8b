use Rattle.std.proofs.Common.{◌∙◌, ◌+◌, ◌<◌, ◌^◌, sym, subst}
use Rattle.ten_shell.specs.Shells.{run_of}
use Rattle.ten_shell.proofs.Standing.{alive-in, is-run}
use Rattle.ten_shell.proofs.laws.a_shells_cycle_leads_to_a_state.Goals as goal

pub returns : goal.returns
returns c = λ s b n i w m.
    let few = subst (λ t. t + 1 < 2 ^ 32) (sym w.at.ticks) (c.ticks_and_acts_can_be_counted.ensures.ticks (run_of s) w.order n i w.running) in
    c.a_cycle_leads_to_a_state.ensures s.engine b (is-run s b n i w) m.no_call (w.at.finished ∙ alive-in s b n i w m) few
