-- Cases by the program's items (IEEE 1364-2005, clause 9.5).
use Rattle.std.specs.Prelude.{ℕ, ◌≤◌, List, [], ◌∷◌, ⊤, Option, Some, None, slice_get}
use Rattle.vl_design.specs.declared.design.CaseItem.{CaseItem}
use Rattle.vl_design.specs.Plainly as plain
use Rattle.vl_design.specs.Seen as seen
use Rattle.vl_design.specs.Sound.{AreSound}
use Rattle.vl_design.specs.Syntax.{Exps, NoExps, MoreExps, Stm, Nop, Items, NoItems}
use Rattle.vl_design.specs.Trees.{exps_of, stm_of}
use Rattle.vl_design.specs.Width.{Names, form}

abbrev pub items_of : List ℕ → List CaseItem → Items
items_of path [] = NoItems
items_of path (a ∷ as') = plain.item (seen.exps_of a.labels.items) (stm_of path a.body) (items_of path as')

-- the body of an item
abbrev pub body_of : List ℕ → Option CaseItem → Stm
body_of path None = Nop
body_of path (Some a) = stm_of path a.body

-- the body of the item at a place
abbrev pub body_at : List ℕ → List CaseItem → Option ℕ → Stm
body_at path items None = Nop
body_at path items (Some i) = body_of path (slice_get items i)

-- likewise, or else another
abbrev pub body_or : List ℕ → List CaseItem → Stm → Option ℕ → Stm
body_or path items otherwise None = otherwise
body_or path items otherwise (Some i) = body_of path (slice_get items i)

-- no wider than so many bits
abbrev pub AreWithin : Names → ℕ → Exps → Type 0
AreWithin names w NoExps = ⊤
AreWithin names w (MoreExps e es) = ((form names e).width ≤ w) × AreWithin names w es

-- labels of items that are sound
abbrev pub AreSoundLabels : Names → List CaseItem → Type 0
AreSoundLabels names [] = ⊤
AreSoundLabels names (a ∷ as') = AreSound names (exps_of a.labels.items) × AreSoundLabels names as'

-- labels of items that are no wider than so many bits
abbrev pub AreLabelsWithin : Names → ℕ → List CaseItem → Type 0
AreLabelsWithin names w [] = ⊤
AreLabelsWithin names w (a ∷ as') = AreWithin names w (exps_of a.labels.items) × AreLabelsWithin names w as'
