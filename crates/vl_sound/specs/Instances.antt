-- The instances of a flat design (IEEE 1364-2005, clause 12.1.2): what each is given, and of which module it is.
use Rattle.std.specs.Prelude.{◌≡◌, ℕ, suc, List, ◌∷◌, ◌++◌, fold, Some}
use Rattle.vl_flat.specs.Items as x
use Rattle.vl_flat.specs.Environments.{Given, plus, module_named, size, environment}
use Rattle.vl_flat.specs.Processes.{Here}
use Rattle.vl_flat.specs.Connections.{given}
use Rattle.vl_flat.specs.Flat.{deepest, top_given, whole, behind_item}

-- where the items of an instance stand, in which others stand so deep
abbrev pub here_of : ℕ → List x.Module → x.Module → Given → x.Module → Here
here_of n ms top g m = record { env = environment (size n ms) g m; path = g.path; behind = (whole ms top).signals }

-- the top module is an instance, and so is each unit of an item of one: behind the signals of the items before, and of the units
-- before it in the item
pub data IsInstance (ms : List x.Module) (top : x.Module) : ℕ → Given → x.Module → Type 0 where
  of_top : IsInstance ms top deepest (top_given top) top
  of_item : (n : ℕ) (g : Given) (m of : x.Module) (before after : List x.Item) (us : x.Instances) (first others : List x.NamedUnit) (u : x.NamedUnit)
      → IsInstance ms top (suc n) g m → m.items ≡ before ++ x.Instantiates us ∷ after → us.units ≡ first ++ u ∷ others → module_named ms us.definition ≡ Some of
      → IsInstance ms top n (given (here_of (suc n) ms top g m)
      (fold (λ z v. plus z (size (suc n) ms us.definition)) (fold (behind_item (size (suc n) ms) (here_of (suc n) ms top g m)) g.base before) first) us u of) of
