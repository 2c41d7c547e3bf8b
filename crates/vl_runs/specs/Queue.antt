-- Processes that are evaluated one after another, the lowest pending one first, over any kind of values (IEEE 1364-2005,
-- clause 11; the order among active events is own).
use Rattle.std.specs.Prelude.{◌≡◌, ℕ, zero, suc, Bool, true, false, ◌||◌, List, [], ◌∷◌, Option, Some, None}

-- the lowest that is pending, where the first has the number k
abbrev pub first_pending : ℕ → List Bool → Option ℕ
first_pending k [] = None
first_pending k (true ∷ bs) = Some k
first_pending k (false ∷ bs) = first_pending (suc k) bs

-- the lowest that is pending is so no more
abbrev pub first_done : List Bool → List Bool
first_done [] = []
first_done (true ∷ bs) = false ∷ bs
first_done (false ∷ bs) = false ∷ first_done bs

-- those pending, and each that passes the test, where the first has the number k
abbrev pub woken : (ℕ → Bool) → ℕ → List Bool → List Bool
woken p k [] = []
woken p k (b ∷ bs) = (b || p k) ∷ woken p (suc k) bs

-- the process of a number is pending
abbrev pub is_pending : List Bool → ℕ → Bool
is_pending [] k = false
is_pending (b ∷ bs) zero = b
is_pending (b ∷ bs) (suc k) = is_pending bs k

-- run p is what an evaluation of the process p makes of the values; wakes v w says of each process whether it is woken where
-- v became w
module _ {V : Type 0} (run : ℕ → V → V) (wakes : V → V → ℕ → Bool) where
  abbrev pub next_of : V → List Bool → Option ℕ → Option (V × List Bool)
  next_of v bs None = None
  next_of v bs (Some p) = Some (run p v, woken (wakes v (run p v)) 0 (first_done bs))

  -- the lowest pending process is evaluated
  abbrev pub next : V × List Bool → Option (V × List Bool)
  next q = next_of q.0 q.1 (first_pending 0 q.1)

  -- the second is the first in which no process is pending, from the first on
  pub data Settles : V × List Bool → V × List Bool → Type 0 where
    rests : {q : V × List Bool} → next q ≡ None → Settles q q
    goes : {q r s : V × List Bool} → next q ≡ Some r → Settles r s → Settles q s
