use Rattle.std.proofs.Common.{length}
use Rattle.vl_names.proofs.components.close.Given as goal

abbrev pub decreases-close : goal.decreases-close
decreases-close l = length l.search.open.items
