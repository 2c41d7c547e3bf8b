-- Lists inside left sides and cases.
use Rattle.std.specs.Prelude.{List, [], ◌∷◌}
use Rattle.vl_design.specs.declared.design.CaseItem.{CaseItem}
use Rattle.vl_design.specs.declared.design.Target.{Target}
use Rattle.vl_design.specs.Placed as p
use Rattle.vl_design.specs.Seen as seen

abbrev pub targets_of : List Target → p.Targets
targets_of [] = p.NoTargets
targets_of (t ∷ ts) = p.MoreTargets (seen.target_of t) (targets_of ts)

abbrev pub items_of : List CaseItem → p.Items
items_of [] = p.NoItems
items_of (a ∷ as') = p.MoreItems (seen.exps_of a.labels.items) (seen.stm_of a.body) (items_of as')
