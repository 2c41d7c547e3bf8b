-- Statements as they are counted one by one.
use Rattle.std.specs.Prelude.{Bool, false, List, [], ◌∷◌}
use Rattle.vl_base.specs.declared.place.Place.{Place}
use Rattle.vl_base.specs.Places.{same_place}
use Rattle.vl_design.specs.declared.design.CaseItem.{CaseItem}
use Rattle.vl_design.specs.Placed as p
use Rattle.vl_design.specs.Seen.{exps_of, stm_of}

-- a null statement at the place of its `if` stands for an `else` that isn't there
abbrev pub is_missing : Place → p.Stm → Bool
is_missing at (p.Nop q) = same_place at q
is_missing at a = false

abbrev pub item : CaseItem → p.Items → p.Items
item x others = p.MoreItems (exps_of x.labels.items) (stm_of x.body) others

abbrev pub items_of : List CaseItem → p.Items
items_of [] = p.NoItems
items_of (x ∷ xs) = item x (items_of xs)
