-- Walks back along a relation of numbers, with flags for those that were come to and those that were left.
use Rattle.std.specs.Prelude.{◌≡◌, ℕ, ◌+◌, Bool, true, false, ◌||◌, ◌==◌, cond, List, [], ◌∷◌, length, ⊤, slice_index_or}
use Rattle.cell_level.specs.Cycles.{times, IsOnCycle}

-- the flag of this number is on
abbrev pub on : List Bool → ℕ → Bool
on flags x = slice_index_or flags x false

-- the flag of y is on from now on, and the others are as before
abbrev pub Marks : List Bool → ℕ → List Bool → Type 0
Marks old y new = (x : ℕ) → on new x ≡ (on old x || x == y)

abbrev pub one_if : Bool → ℕ
one_if b = cond b 1 0

module _ (E : ℕ → ℕ → Type 0) where
  -- a and these are each related to the next
  abbrev pub Linked : ℕ → List ℕ → Type 0
  Linked a [] = ⊤
  Linked a (b ∷ bs) = E a b × Linked b bs

  -- these are each related to the next
  abbrev pub IsWay : List ℕ → Type 0
  IsWay [] = ⊤
  IsWay (a ∷ rest) = Linked a rest

  -- none of these is related to q
  abbrev pub NoneLeads : List ℕ → ℕ → Type 0
  NoneLeads [] q = ⊤
  NoneLeads (p ∷ ps) q = (E p q → ⊥) × NoneLeads ps q

  -- none is related from itself, or from one behind it
  abbrev pub InOrder : List ℕ → Type 0
  InOrder [] = ⊤
  InOrder (p ∷ ps) = NoneLeads (p ∷ ps) p × InOrder ps

  -- a walk back through n numbers: who was come to is on the stack, or was left and stands in the order. Until a cycle is
  -- seen, it stands behind all that are related to it
  pub record Walking (n : ℕ) (seen done : List Bool) (order stack : List ℕ) (cyclic : Bool) : Type 0 where
    pub long : length seen ≡ n
    pub done_long : length done ≡ n
    pub once : (x : ℕ) → times x stack + one_if (on done x) ≡ one_if (on seen x)
    pub left : (x : ℕ) → times x order ≡ one_if (on done x)
    pub ordered : cyclic ≡ false → InOrder order
    pub closed : cyclic ≡ false → (p q : ℕ) → E p q → on done q ≡ true → on done p ≡ true
    pub off : cyclic ≡ false → (x : ℕ) → on done x ≡ true → IsOnCycle E x → ⊥
    pub round : cyclic ≡ true → (c : ℕ) × IsOnCycle E c

-- the way of a walk goes back
abbrev pub Back : (ℕ → ℕ → Type 0) → ℕ → ℕ → Type 0
Back E a b = E b a
