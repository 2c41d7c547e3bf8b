-- Cycles of a relation of numbers.
use Rattle.std.specs.Prelude.{◌≡◌, ℕ, ◌<◌, ◌≤◌, List, [], ◌∷◌, count_by, ◌==◌}

-- how often x stands in a list
abbrev pub times : ℕ → List ℕ → ℕ
times x xs = count_by (λ y. y == x) xs

module _ (E : ℕ → ℕ → Type 0) where
  -- from p over these to z, each is related to the next
  abbrev pub Leads : ℕ → List ℕ → ℕ → Type 0
  Leads p [] z = E p z
  Leads p (q ∷ qs) z = E p q × Leads q qs z

  -- p lies on a cycle
  abbrev pub IsOnCycle : ℕ → Type 0
  IsOnCycle p = (others : List ℕ) × Leads p others p

  -- a cycle from its first back to it, on which none comes twice
  pub record IsCycle (first : ℕ) (cycle : List ℕ) : Type 0 where
    pub others : List ℕ
    pub begins : cycle ≡ first ∷ others
    pub closes : Leads first others first
    pub once : (p : ℕ) → times p cycle ≤ 1

  -- and no number below the first lies on any cycle
  pub record IsLowestCycle (cycle : List ℕ) : Type 0 where
    pub first : ℕ
    pub is_cycle : IsCycle first cycle
    pub lowest : (p : ℕ) → p < first → IsOnCycle p → ⊥
