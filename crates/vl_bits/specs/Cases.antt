-- Cases by the program's items (IEEE 1364-2005, clause 9.5).
use Rattle.std.specs.Prelude.{ℕ, Bool, false, List, [], ◌∷◌}
use Rattle.vl_design.specs.declared.design.CaseItem.{CaseItem}
use Rattle.vl_design.specs.Placed as p
use Rattle.vl_design.specs.Plainly as plain
use Rattle.vl_design.specs.Seen as seen
use Rattle.vl_design.specs.Syntax.{Items, NoItems}
use Rattle.vl_design.specs.Trees.{stm_of}

abbrev pub items_of : List ℕ → List CaseItem → Items
items_of path [] = NoItems
items_of path (x ∷ xs) = plain.item (seen.exps_of x.labels.items) (stm_of path x.body) (items_of path xs)

-- with an item of these labels more it may still be that nothing matches: not behind the default, which has none
abbrev pub stays_open : Bool → p.Exps → Bool
stays_open open_end p.NoExps = false
stays_open open_end (p.MoreExps e es) = open_end
