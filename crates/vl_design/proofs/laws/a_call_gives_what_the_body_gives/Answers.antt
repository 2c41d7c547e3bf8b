use Rattle.vl_design.proofs.Ranked.{call_gives}
use Rattle.vl_design.proofs.laws.a_call_gives_what_the_body_gives.Goals as goal

pub returns : goal.returns
returns c = λ d rank files f args r. call_gives d rank files r f args
