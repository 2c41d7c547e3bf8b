-- A search through a table of calls, with flags for those that were come to and a stack of those whose calls weren't followed.
use Rattle.std.specs.Prelude.{◌≡◌, ◌⊎◌, ℕ, ◌+◌, ◌*◌, Bool, true, false, not, count_by, List, [], ◌∷◌, ◌++◌, length}
use Rattle.vl_design.specs.First.{In}
use Rattle.cell_level.specs.Walks.{on, Marks}
use Rattle.vl_check.specs.declared.calls_calls.Call.{Call}

-- twice those that weren't come to, and those on the stack
abbrev pub room : List Bool → List ℕ → ℕ
room seen stack = 2 * count_by not seen + length stack

-- f was come to before and nothing changes, or it is come to and put on the stack
abbrev pub IsAdded : ℕ → List Bool → List ℕ → List Bool → List ℕ → Type 0
IsAdded f seen stack seen' stack' =
    ((on seen f ≡ true) × (seen' ≡ seen) × (stack' ≡ stack))
    ⊎ ((on seen f ≡ false) × Marks seen f seen' × (stack' ≡ stack ++ (f ∷ [])))

-- those that are called are come to, and those that are new are put on the stack
pub record Follows (calls : List Call) (seen : List Bool) (stack : List ℕ) (seen' : List Bool) (stack' : List ℕ) : Type 0 where
  pub kept : (y : ℕ) → on seen y ≡ true → on seen' y ≡ true
  pub came : (c : Call) → In c calls → on seen' c.callee ≡ true
  pub from : (y : ℕ) → on seen' y ≡ true → (on seen y ≡ true) ⊎ ((c : Call) × In c calls × (c.callee ≡ y))
  pub stay : (y : ℕ) → In y stack → In y stack'
  pub new : (y : ℕ) → on seen' y ≡ true → (on seen y ≡ true) ⊎ In y stack'
  pub met : ((y : ℕ) → In y stack → on seen y ≡ true) → (y : ℕ) → In y stack' → on seen' y ≡ true
