-- Flags, and how often a number stands in a list.
use Rattle.std.proofs.Common.{◌≡◌, ◌≢◌, ℕ, ◌+◌, ◌<◌, ◌≤◌, Bool, true, false, not, List, [], ◌∷◌, ◌++◌, length, set, refl, sym, ap, ◌∙◌, arith}
use Rattle.std.specs.Prelude.{◌||◌, ◌==◌, ◌⊎◌, cond, count_by}
use Rattle.std.proofs.lemmas.Bool.{or_left, or_right, eq-eqb, ne_eqb}
use Rattle.std.proofs.lemmas.List.{get_or-set_same, get_or-set_other}
use Rattle.std.proofs.lemmas.List.Sums.{sum_by-set, sum_by_push}
use mathlib.Core.Logic.{inl, inr}
use Rattle.cell_level.specs.Cycles.{times}
use Rattle.cell_level.specs.Walks.{one_if, on, Marks}
pub use Rattle.vl_bits.specs.vl_base.proofs.Booleans.{or_false_right as or_none}
pub use Rattle.vl_bits.specs.vl_base.proofs.Numbers.{equal_or_not as either}

pub one_same : (x y : ℕ) → x ≡ y → one_if (x == y) ≡ 1
one_same x y e = grind arith

pub one_other : (x y : ℕ) → x ≢ y → one_if (x == y) ≡ 0
one_other x y e = grind arith

-- ---- a flag is marked

module _ (s s' : List Bool) (y : ℕ) (m : Marks s y s') where
  pub marked_same : on s' y ≡ true
  marked_same = m y ∙ or_right (on s y) (y == y) (eq-eqb y y refl)

  pub marked_other : (x : ℕ) → x ≢ y → on s' x ≡ on s x
  marked_other x d = m x ∙ ap (λ b. on s x || b) (ne_eqb x y d) ∙ or_none (on s x)

  pub marked_kept : (x : ℕ) → on s x ≡ true → on s' x ≡ true
  marked_kept x e = m x ∙ or_left (on s x) (x == y) e

-- ---- a number is put behind a list

pub times_same : (xs : List ℕ) (y x : ℕ) → y ≡ x → times x (xs ++ y ∷ []) ≡ times x xs + 1
times_same xs y x e = omega (arith, sum_by_push (λ z. cond (z == x) 1 0) xs y, one_same y x e)

pub times_other : (xs : List ℕ) (y x : ℕ) → y ≢ x → times x (xs ++ y ∷ []) ≡ times x xs
times_other xs y x d = omega (arith, sum_by_push (λ z. cond (z == x) 1 0) xs y, one_other y x d)

pub one_on : (b : Bool) → b ≡ true → one_if b ≡ 1
one_on b e = ap one_if e

pub one_off : (b : Bool) → b ≡ false → one_if b ≡ 0
one_off b e = ap one_if e

pub one_at_most : (b : Bool) → one_if b ≤ 1
one_at_most true = omega arith
one_at_most false = omega arith

pub is_on : (b : Bool) → 0 < one_if b → b ≡ true
is_on true h = refl
is_on false h = absurd (omega arith)

pub is_off : (b : Bool) → one_if b ≡ 0 → b ≡ false
is_off true h = absurd (omega arith)
is_off false h = refl
