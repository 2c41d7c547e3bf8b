-- Modules in which no parameter and no function has a signal's name (IEEE 1364-2005, clause 4.11; a name that is declared
-- twice is a fault of the names): laws on the numbers of signals speak of them.
use Rattle.std.specs.Prelude.{◌≡◌, ℕ, Bool, false, List, ⊤, All}
use Rattle.std.specs.List.{list_any}
use Rattle.std.specs.Str.{bytes_eq}
use Rattle.vl_flat.specs.Items as x
use Rattle.vl_flat.specs.Kinds.{signals_of}

-- one of the declarations is of this name
abbrev pub declared : List x.Declared → List ℕ → Bool
declared ds t = list_any (λ d. bytes_eq t d.name.name) ds

-- the item gives none of these names to a parameter or a function
abbrev pub IsApart : List x.Declared → x.Item → Type 0
IsApart ds (x.Parameters type ps) = All (λ a. declared ds a.name.name ≡ false) ps
IsApart ds (x.Functions f) = declared ds f.name.name ≡ false
IsApart ds item = ⊤

abbrev pub AreApart : x.Module → Type 0
AreApart m = All (IsApart (signals_of m)) m.items
