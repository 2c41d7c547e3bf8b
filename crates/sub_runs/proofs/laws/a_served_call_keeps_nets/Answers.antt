use Rattle.sub_runs.proofs.Cycles.{serve_holds, serve_zero}
use Rattle.sub_runs.proofs.laws.a_served_call_keeps_nets.Goals as goal

pub returns : goal.returns
returns c = record {
  hold = λ d order files nodes task to i k e w f h. serve_holds d files nodes task to i e w k order f h;
  zero = λ d files nodes task to i e w h. serve_zero d files nodes task to i e w h;
}
