use Rattle.std.proofs.Common.{arith}
use Rattle.std.proofs.lemmas.Grind.{common_steps}
use Rattle.vl_scope.proofs.Noting.{repeated_faults-push}
use Rattle.vl_scope.proofs.faults.note_listed.Goals as goal

pub loop-name-preserved : goal.loop-name-preserved
loop-name-preserved c = record {
  names = λ t. grind (arith, common_steps, c.in_ok-best.ensures.names t, c.loop-name.invariant.names t);
  best = grind (arith, common_steps, repeated_faults-push, c.loop-name.invariant.names c.name-item.result.name);
}
