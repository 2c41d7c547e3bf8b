use Rattle.std.proofs.Common.{◌+◌, ◌*◌, not, length}
use Rattle.std.specs.List.{count_by}
use Rattle.vl_names.specs.Walks as spec
use Rattle.vl_names.proofs.cycle.leads_back.Given as goal

abbrev pub invariant-search : goal.invariant-search
invariant-search l = spec.Searches l.graph l.start l.marks.items l.pile.items

abbrev pub decreases-search : goal.decreases-search
decreases-search l = 2 * count_by not l.marks.items + length l.pile.items
