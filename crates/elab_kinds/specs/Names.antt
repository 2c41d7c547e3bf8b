-- Sets of names, and what a walk adds to one.
use Rattle.std.specs.Prelude.{◌≡◌, ℕ, Bool, false, not, ◌&&◌, ◌||◌, List}
use Rattle.std.specs.Borrow.{Bor}
use Rattle.std.specs.Str.{bytes_eq}
use Rattle.indexmap.specs.IndexSet.{IndexSet, contains_by}

-- the set has the name
abbrev pub has : {S : Type 0} → IndexSet (Bor (List ℕ)) S → List ℕ → Bool
has s t = contains_by (λ k. bytes_eq t k.now) s

-- nothing is hidden
abbrev pub nothing : List ℕ → Bool
nothing t = false

-- the later set has the names of the former, and those that pass the test and aren't hidden
pub record Adds {S : Type 0} (old new : IndexSet (Bor (List ℕ)) S) (hides test : List ℕ → Bool) : Type 0 where
  pub added : (t : List ℕ) → has new t ≡ (has old t || (not (hides t) && test t))
