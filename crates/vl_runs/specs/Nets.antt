-- Processes that drive some bits and read some: their orders, what holds of their evaluations, and when they are solved
-- (IEEE 1364-2005, clauses 6.1 and 9.7.5). Values and bits are of any kind.
use Rattle.std.specs.Prelude.{◌≡◌, ◌≢◌, ℕ, ◌<◌, Bool, true, false, List, [], ◌∷◌, length, ⊤, ◌⊎◌}
use Rattle.vl_runs.specs.Queue.{is_pending}

-- p is in the list
abbrev pub In : ℕ → List ℕ → Type 0
In p [] = ⊥
In p (q ∷ qs) = (p ≡ q) ⊎ In p qs

-- all of the list are below n
abbrev pub AllBelow : ℕ → List ℕ → Type 0
AllBelow n [] = ⊤
AllBelow n (p ∷ ps) = (p < n) × AllBelow n ps

module _ {V : Type 0} (run : ℕ → V → V) where
  -- one evaluation of each process of the list, in its order
  abbrev pub pass : List ℕ → V → V
  pass [] v = v
  pass (p ∷ ps) v = pass ps (run p v)

  -- an evaluation of the process p changes nothing
  abbrev pub IsSolved : V → ℕ → Type 0
  IsSolved v p = run p v ≡ v

  -- nor does one of any of the n processes
  abbrev pub AreSolved : ℕ → V → Type 0
  AreSolved n v = (p : ℕ) → p < n → IsSolved v p

module _ {B : Type 0} (drives reads : ℕ → B → Bool) where
  -- no process of the list drives a bit that p reads
  abbrev pub NoneDrives : List ℕ → ℕ → Type 0
  NoneDrives [] p = ⊤
  NoneDrives (q ∷ qs) p = ((b : B) → drives q b ≡ true → reads p b ≡ false) × NoneDrives qs p

  -- none reads a bit that it drives itself, or that one behind it drives
  abbrev pub Levelled : List ℕ → Type 0
  Levelled [] = ⊤
  Levelled (p ∷ ps) = NoneDrives (p ∷ ps) p × Levelled ps

  -- each of n processes stands in the order, and nothing else does
  pub record IsOrder (n : ℕ) (order : List ℕ) : Type 0 where
    pub below : AllBelow n order
    pub every : (p : ℕ) → p < n → In p order
    pub levelled : Levelled order

module _ {V B : Type 0} (at : V → B → ℕ) (Fine : V → Type 0) (run : ℕ → V → V) (wakes : V → V → ℕ → Bool) (drives reads : ℕ → B → Bool) (n : ℕ) where
  -- what holds of the evaluations of n processes; at says of each bit what it is
  pub record Lawful : Type 0 where
    -- fine values are told by their bits, and stay fine
    pub whole : (v w : V) → Fine v → Fine w → ((b : B) → at v b ≡ at w b) → v ≡ w
    pub fine : (p : ℕ) (v : V) → Fine v → Fine (run p v)
    -- a bit that p doesn't drive is kept; one that it drives depends on those that p reads
    pub keeps : (p : ℕ) (v : V) (b : B) → Fine v → drives p b ≡ false → at (run p v) b ≡ at v b
    pub depends : (p : ℕ) (v w : V) → Fine v → Fine w → ((b : B) → reads p b ≡ true → at v b ≡ at w b) → (b : B) → drives p b ≡ true → at (run p v) b ≡ at (run p w) b
    -- a bit has one driver
    pub once : (p q : ℕ) (b : B) → p < n → q < n → drives p b ≡ true → drives q b ≡ true → p ≡ q
    -- who isn't woken reads what it read; nobody is woken by nothing
    pub asleep : (v w : V) (p : ℕ) → wakes v w p ≡ false → (b : B) → reads p b ≡ true → at v b ≡ at w b
    pub quiet : (v : V) (p : ℕ) → wakes v v p ≡ false
    -- whether an evaluation changes nothing can be told
    pub tell : (p : ℕ) (v : V) → (run p v ≡ v) ⊎ (run p v ≢ v)

-- the values are the same at each bit that none of the n processes drives
abbrev pub SameOthers : {V B : Type 0} → (V → B → ℕ) → (ℕ → B → Bool) → ℕ → V → V → Type 0
SameOthers {V} {B} at drives n v w = (b : B) → ((p : ℕ) → p < n → drives p b ≡ false) → at v b ≡ at w b

-- each of n processes is pending or solved
pub record Waits {V : Type 0} (Fine : V → Type 0) (run : ℕ → V → V) (n : ℕ) (q : V × List Bool) : Type 0 where
  pub fine : Fine q.0
  pub many : length q.1 ≡ n
  pub each : (p : ℕ) → p < n → (is_pending q.1 p ≡ true) ⊎ IsSolved run q.0 p
