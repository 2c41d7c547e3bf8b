-- The memories whose words nonblocking assignments write, an entry for each, in the order in which they are compiled (own). A word that
-- a path isn't taken to, or whose address is out of range, counts too.
use Rattle.std.specs.Prelude.{ℕ, List, [], ◌∷◌, ◌++◌}
use Rattle.vl_design.specs.Syntax.{Target, Whole, WordAt, PickAt, SliceAt, Several, Targets, NoTargets, MoreTargets, Stm, Nop, Then, If, Case, For, Repeat, Set, Later, Sys, Items, NoItems, Labelled, Default}

abbrev mutual
  -- from the left
  pub target_stored : Target → List ℕ
  target_stored (Whole k) = []
  target_stored (WordAt m a) = m ∷ []
  target_stored (PickAt b i from w) = target_stored b
  target_stored (SliceAt b low w) = target_stored b
  target_stored (Several ts) = targets_stored ts

  pub targets_stored : Targets → List ℕ
  targets_stored NoTargets = []
  targets_stored (MoreTargets t ts) = target_stored t ++ targets_stored ts

abbrev mutual
  -- in the order of the text, but a default behind all labelled items; loops and tasks aren't compiled here
  pub stored_words : Stm → List ℕ
  stored_words Nop = []
  stored_words (Then a b) = stored_words a ++ stored_words b
  stored_words (If t a b) = stored_words a ++ stored_words b
  stored_words (Case e items) = items_stored items ++ default_stored items
  stored_words (For k start test step a) = []
  stored_words (Repeat n a) = []
  stored_words (Set t e) = []
  stored_words (Later t e) = target_stored t
  stored_words (Sys task) = []

  -- items that have labels
  pub items_stored : Items → List ℕ
  items_stored NoItems = []
  items_stored (Labelled es a others) = stored_words a ++ items_stored others
  items_stored (Default a others) = items_stored others

  -- the default, if there is one
  pub default_stored : Items → List ℕ
  default_stored NoItems = []
  default_stored (Labelled es a others) = default_stored others
  default_stored (Default a others) = stored_words a
