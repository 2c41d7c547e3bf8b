use Rattle.sub_nodes.proofs.Runs.{cycle_acts, cycle_traps, call_traps}
use Rattle.sub_nodes.proofs.laws.a_cycle_is_an_act.Goals as goal

pub returns-clause-act : goal.returns-clause-act
returns-clause-act c = λ o T nets c p i r x f s h. cycle_acts o T nets r i x f s h

pub returns-clause-trap : goal.returns-clause-trap
returns-clause-trap c = λ o T nets c p i r x f s h. cycle_traps o T nets r i x f s h

pub returns-clause-exactly : goal.returns-clause-exactly
returns-clause-exactly c = λ o T nets c p i r x f s. (λ h. (let k = cycle_traps o T nets r i x f s h in (k.0, k.1, k.2)), λ b. call_traps o T nets r i x f s b.2)
