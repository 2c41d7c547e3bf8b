use Rattle.std.proofs.Common.{length}
use Rattle.elab_bind.proofs.expressions.+marked.Given as goal

abbrev pub decreases-marked : goal.decreases-marked
decreases-marked l = length l.marks.now
