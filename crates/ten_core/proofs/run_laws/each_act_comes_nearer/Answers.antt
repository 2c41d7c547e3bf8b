use Rattle.ten_core.proofs.Stepping.{cycle-runs, call-runs, cycle-fewer, call-fewer, cycle-more, cycle-same, call-same}
use Rattle.ten_core.proofs.run_laws.each_act_comes_nearer.Goals as goal

pub returns-clause-cycle : goal.returns-clause-cycle
returns-clause-cycle c = λ o order n i r on idle. cycle-runs o order n i r on idle

pub returns-clause-call : goal.returns-clause-call
returns-clause-call c = λ o order n i r waits. call-runs o order n i r waits

pub returns-clause-cycle_nearer : goal.returns-clause-cycle_nearer
returns-clause-cycle_nearer c = λ o order n i r on idle. cycle-fewer o order n i r on idle

pub returns-clause-call_nearer : goal.returns-clause-call_nearer
returns-clause-call_nearer c = λ o order n i r waits. call-fewer o order n i r waits

pub returns-clause-rises : goal.returns-clause-rises
returns-clause-rises c = λ o order n i r up. cycle-more o order n i r up

pub returns-clause-ticks : goal.returns-clause-ticks
returns-clause-ticks c = λ o order n i r low. cycle-same o order n i r low

pub returns-clause-call_ticks : goal.returns-clause-call_ticks
returns-clause-call_ticks c = λ o order n i r. call-same o order n i r
