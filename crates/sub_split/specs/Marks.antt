-- Which choices hold a call, in the order in which a splitter comes to them: from the last statement to the first, a choice
-- before what stands in it, and the default of a case behind the other items (own).
use Rattle.std.specs.Prelude.{Bool, true, false, ◌||◌, ◌&&◌, List, [], ◌∷◌, ◌++◌, if◌then◌else◌}
use Rattle.vl_design.specs.Syntax.{Stm, Nop, Then, If, Case, For, Repeat, Set, Later, Sys, Items, NoItems, Labelled, Default}
use Rattle.vl_design.specs.Exec.{asks}
use Rattle.vl_design.specs.Laws.{can_act, items_can_act}

abbrev mutual
  -- nothing within a choice that holds no call: it is one statement of a stretch
  pub marks_of : Stm → List Bool
  marks_of Nop = []
  marks_of (Then a b) = marks_of b ++ marks_of a
  marks_of (If t a b) = if asks t || (can_act a || can_act b) then true ∷ (marks_of a ++ marks_of b) else false ∷ []
  marks_of (Case e items) = if items_can_act items then true ∷ (item_marks items ++ default_marks items) else false ∷ []
  marks_of (For k start test step a) = []
  marks_of (Repeat n a) = []
  marks_of (Set t e) = []
  marks_of (Later t e) = []
  marks_of (Sys task) = []

  pub item_marks : Items → List Bool
  item_marks NoItems = []
  item_marks (Labelled es a others) = marks_of a ++ item_marks others
  item_marks (Default a others) = item_marks others

  pub default_marks : Items → List Bool
  default_marks NoItems = []
  default_marks (Labelled es a others) = default_marks others
  default_marks (Default a others) = marks_of a

-- an item other than the first default holds a call; seen: a default stands before these items
abbrev pub others_act : (seen : Bool) → Items → Bool
others_act seen NoItems = false
others_act seen (Labelled es a others) = can_act a || others_act seen others
others_act seen (Default a others) = (seen && can_act a) || others_act true others
