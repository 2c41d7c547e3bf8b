use Rattle.std.proofs.Common.{length}
use Rattle.vl_names.proofs.components.join.Given as goal

abbrev pub decreases-join : goal.decreases-join
decreases-join l = length l.search.roots.items
