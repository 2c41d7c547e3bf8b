use Rattle.fab_core.proofs.Exchanged.{AreSwapped}
use Rattle.fab_core.proofs.swapping.swap_all.Given as goal

abbrev pub invariant-loop-place : goal.invariant-loop-place
invariant-loop-place l = AreSwapped l.fn.joined l.fn.residents l.joined l.residents l.place
