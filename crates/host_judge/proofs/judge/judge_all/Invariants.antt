use Rattle.host_judge.specs.Deciding.{AreSoFar}
use Rattle.host_judge.proofs.judge.judge_all.Given as goal

abbrev pub invariant-loop-tenant : goal.invariant-loop-tenant
invariant-loop-tenant l = AreSoFar l.script l.yielded l.judged
