use Rattle.std.proofs.Common.{◌+◌, ◌*◌}
use Rattle.vl_run.proofs.call.+call.Given as goal

abbrev pub decreases-call : goal.decreases-call
decreases-call l = 2 * l.depth

abbrev pub decreases-give : goal.decreases-give
decreases-give l = 2 * l.next + 1
