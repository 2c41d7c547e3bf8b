use Rattle.sub_runs.proofs.Cycles.{cycle_holds, cycle_zero, cycle_ends, cycle_updates}
use Rattle.sub_runs.proofs.laws.a_cycle_keeps_nets.Goals as goal

pub returns : goal.returns
returns c = record {
  hold = λ d order files nodes g on i k e n w f a h. cycle_holds d files nodes g on i e w k order n f a h;
  zero = λ d files nets nodes g on i e n w h. cycle_zero d files nodes g on i e w nets n h;
  ends = λ d order files nodes g to i k o e w f t. cycle_ends d files k order o nodes g to i e w f t;
  updates = λ d order files nodes to i k o e f t. cycle_updates d files k order o nodes to i e f t;
}
