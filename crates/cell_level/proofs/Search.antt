-- A search for a way back, step by step.
use Rattle.std.proofs.Common.{◌≡◌, ◌≢◌, ℕ, ◌≤◌, Bool, true, false, List, [], ◌∷◌, ◌++◌, refl, sym, ap, ◌∙◌, subst, arith}
use Rattle.std.specs.Prelude.{◌||◌, ◌==◌, ◌⊎◌}
use Rattle.std.proofs.lemmas.Bool.{or_left, or_right, or_cases, or_from, eqb-true, eq-eqb, ne_eqb}
use mathlib.Core.Logic.{inl, inr}
use Rattle.cell_level.specs.Cycles.{times, Leads, IsOnCycle, IsCycle}
use Rattle.cell_level.specs.Walks.{one_if, on, Marks, IsWay}
use Rattle.cell_level.proofs.Marking.{either, one_same, one_other, one_on, one_off, one_at_most, marked_same, marked_other, marked_kept, times_same, times_other}
use Rattle.cell_level.proofs.Ways.{outside_is_off, way_shorter, way_longer, way_round}

-- the first of these, if there is one, is this
abbrev pub Begins : ℕ → List ℕ → Type 0
Begins start [] = Unit {0}
Begins start (a ∷ rest) = a ≡ start

-- a search from `start` for a way back to it: the stack is the way, and who was come to and isn't on it has been left, with
-- all that it is related to come to
pub record Searching (E : ℕ → ℕ → Type 0) (start : ℕ) (seen : List Bool) (stack : List ℕ) : Type 0 where
  pub begins : Begins start stack
  pub way : IsWay E stack
  pub once : (x : ℕ) → times x stack ≤ one_if (on seen x || x == start)
  pub shut : (x y : ℕ) → E x y → (on seen x || x == start) ≡ true → times x stack ≡ 0 → on seen y ≡ true

begins_shorter : (start : ℕ) (xs : List ℕ) (b : ℕ) → Begins start (xs ++ b ∷ []) → Begins start xs
begins_shorter start [] b h = tt
begins_shorter start (a ∷ zs) b h = h

begins_longer : (start : ℕ) (xs : List ℕ) (b c : ℕ) → Begins start (xs ++ b ∷ []) → Begins start ((xs ++ b ∷ []) ++ c ∷ [])
begins_longer start [] b c h = h
begins_longer start (a ∷ zs) b c h = h

module _ (E : ℕ → ℕ → Type 0) (start : ℕ) where
  -- come to, or where it began
  abbrev pub met : List Bool → ℕ → Bool
  met seen x = on seen x || x == start

  pub begun : (seen : List Bool) → ((x y : ℕ) → E x y → on seen x ≡ true → x ≢ start → on seen y ≡ true) → Searching E start seen (start ∷ [])
  begun seen closed = record {
    begins = refl;
    way = tt;
    once = λ x. once x (either start x);
    shut = λ x y e m t. shut x y e t (or_cases (on seen x) (x == start) m);
  }
    where
      once : (x : ℕ) → (start ≡ x) ⊎ (start ≢ x) → times x (start ∷ []) ≤ one_if (met seen x)
      once x (inl k) = omega (arith, one_same start x k, one_on (met seen x) (or_right (on seen x) (x == start) (eq-eqb x start (sym k))))
      once x (inr d) = omega (arith, one_other start x d)

      shut : (x y : ℕ) → E x y → times x (start ∷ []) ≡ 0 → (on seen x ≡ true) ⊎ ((x == start) ≡ true) → on seen y ≡ true
      shut x y e t (inl h) = closed x y e h (λ k. omega (arith, one_same start x (sym k), t))
      shut x y e t (inr h) = absurd (omega (arith, one_same start x (sym (eqb-true x start h)), t))

  -- the last one is left behind
  pub left : (seen : List Bool) (rest : List ℕ) (b : ℕ) → Searching E start seen (rest ++ b ∷ []) → ((y : ℕ) → E b y → on seen y ≡ true) → Searching E start seen rest
  left seen rest b s all = record {
    begins = begins_shorter start rest b s.begins;
    way = way_shorter E rest b s.way;
    once = λ x. once x (either b x);
    shut = λ x y e m t. shut x y e m t (either b x);
  }
    where
      once : (x : ℕ) → (b ≡ x) ⊎ (b ≢ x) → times x rest ≤ one_if (met seen x)
      once x (inl k) = omega (arith, times_same rest b x k, s.once x)
      once x (inr d) = omega (arith, times_other rest b x d, s.once x)

      shut : (x y : ℕ) → E x y → met seen x ≡ true → times x rest ≡ 0 → (b ≡ x) ⊎ (b ≢ x) → on seen y ≡ true
      shut x y e m t (inl k) = all y (subst (λ z. E z y) (sym k) e)
      shut x y e m t (inr d) = s.shut x y e m (times_other rest b x d ∙ t)

  -- a new one is come to
  pub further : (seen seen' : List Bool) (rest : List ℕ) (b c : ℕ) → Searching E start seen (rest ++ b ∷ []) → E b c → on seen c ≡ false → c ≢ start → Marks seen c seen' →
      Searching E start seen' ((rest ++ b ∷ []) ++ c ∷ [])
  further seen seen' rest b c s e off other m = record {
    begins = begins_longer start rest b c s.begins;
    way = way_longer E rest b c s.way e;
    once = λ x. once x (either c x);
    shut = λ x y e h t. shut x y e h t (either c x);
  }
    where
      unmet : one_if (met seen c) ≡ 0
      unmet = one_off (met seen c) (or_from (on seen c) (c == start) off (ne_eqb c start other))

      same : (x : ℕ) → x ≢ c → met seen' x ≡ met seen x
      same x d = ap (λ z. z || x == start) (marked_other seen seen' c m x d)

      once : (x : ℕ) → (c ≡ x) ⊎ (c ≢ x) → times x ((rest ++ b ∷ []) ++ c ∷ []) ≤ one_if (met seen' x)
      once x (inl k) = subst (λ z. times z ((rest ++ b ∷ []) ++ c ∷ []) ≤ one_if (met seen' z)) k
          (omega (arith, times_same (rest ++ b ∷ []) c c refl, s.once c, unmet, one_on (met seen' c) (or_left (on seen' c) (c == start) (marked_same seen seen' c m))))
      once x (inr d) = omega (arith, times_other (rest ++ b ∷ []) c x d, s.once x, ap one_if (same x (λ k. d (sym k))))

      shut : (x y : ℕ) → E x y → met seen' x ≡ true → times x ((rest ++ b ∷ []) ++ c ∷ []) ≡ 0 → (c ≡ x) ⊎ (c ≢ x) → on seen' y ≡ true
      shut x y e h t (inl k) = absurd (omega (arith, times_same (rest ++ b ∷ []) c x k, t))
      shut x y e h t (inr d) = marked_kept seen seen' c m y (s.shut x y e (sym (same x (λ k. d (sym k))) ∙ h) (sym (times_other (rest ++ b ∷ []) c x d) ∙ t))

  pub kept : (seen seen' : List Bool) (c : ℕ) → c ≢ start → Marks seen c seen' → on seen' start ≡ on seen start
  kept seen seen' c d m = marked_other seen seen' c m start (λ k. d (sym k))

  -- it comes back
  pub came_back : (seen : List Bool) (rest : List ℕ) (b : ℕ) → Searching E start seen (rest ++ b ∷ []) → E b start → IsCycle E start (rest ++ b ∷ [])
  came_back seen rest b s e = go rest s.begins s.way (λ x. omega (arith, s.once x, one_at_most (met seen x)))
    where
      go : (rest : List ℕ) → Begins start (rest ++ b ∷ []) → IsWay E (rest ++ b ∷ []) → ((x : ℕ) → times x (rest ++ b ∷ []) ≤ 1) → IsCycle E start (rest ++ b ∷ [])
      go [] k w o = record { others = []; begins = ap (λ x. x ∷ []) k; closes = subst (λ x. E x start) k e; once = o }
      go (a ∷ zs) k w o = record {
        others = zs ++ b ∷ [];
        begins = ap (λ x. x ∷ zs ++ b ∷ []) k;
        closes = subst (λ x. Leads E x (zs ++ b ∷ []) start) k (way_round E a zs b start w e);
        once = o;
      }

  -- nothing is left to be gone on from
  pub ended : (seen : List Bool) → Searching E start seen [] → (x y : ℕ) → E x y → met seen x ≡ true → on seen y ≡ true
  ended seen s x y e m = s.shut x y e m refl

  pub off : (seen : List Bool) → ((x y : ℕ) → E x y → met seen x ≡ true → on seen y ≡ true) → on seen start ≡ false → IsOnCycle E start → ⊥
  off seen h f = outside_is_off E (on seen) (λ x y e k. h x y e (or_left (on seen x) (x == start) k)) start (λ y e. h start y e (or_right (on seen start) (start == start) (eq-eqb start start refl))) f
