-- What maps and sets with spellings as keys have.
use Rattle.std.specs.Prelude.{ℕ, Bool, List, Option}
use Rattle.std.specs.Borrow.{Bor}
use Rattle.std.specs.Str.{bytes_eq}
use Rattle.indexmap.specs.IndexMap.{IndexMap, get_by}
use Rattle.indexmap.specs.IndexSet.{IndexSet, contains_by}

-- what a map has at a spelling
abbrev pub value_at : {X S : Type 0} → IndexMap (Bor (List ℕ)) X S → List ℕ → Option X
value_at m t = get_by (λ k. bytes_eq t k.now) m

-- whether a set has a spelling
abbrev pub has : {S : Type 0} → IndexSet (Bor (List ℕ)) S → List ℕ → Bool
has s t = contains_by (λ k. bytes_eq t k.now) s
