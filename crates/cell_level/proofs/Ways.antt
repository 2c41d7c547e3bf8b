-- Ways along a relation, and who lies on no cycle.
use Rattle.std.proofs.Common.{◌≡◌, ◌≢◌, ℕ, ◌<◌, Bool, true, false, List, [], ◌∷◌, ◌++◌, sym, subst, arith}
use Rattle.std.specs.Prelude.{◌==◌, ◌⊎◌, cond}
use Rattle.std.proofs.lemmas.List.Sums.{sum_by-cons}
use mathlib.Core.Logic.{inl, inr}
use Rattle.cell_level.specs.Cycles.{times, Leads, IsOnCycle}
use Rattle.cell_level.specs.Walks.{Linked, IsWay, Back}
use Rattle.cell_level.proofs.Marking.{either, one_other}

module _ (E : ℕ → ℕ → Type 0) where
  -- none that passes the test is related to one that doesn't
  abbrev pub IsClosed : (ℕ → Bool) → Type 0
  IsClosed test = (x y : ℕ) → E x y → test x ≡ true → test y ≡ true

  carried : (test : ℕ → Bool) → IsClosed test → (p : ℕ) (others : List ℕ) (z : ℕ) → Leads E p others z → test p ≡ true → test z ≡ true
  carried test on p [] z w h = on p z w h
  carried test on p (q ∷ qs) z w h = carried test on q qs z w.1 (on p q w.0 h)

  -- who isn't among a closed set, which has all that it is related to
  pub outside_is_off : (test : ℕ → Bool) → IsClosed test → (p : ℕ) → ((q : ℕ) → E p q → test q ≡ true) → test p ≡ false → IsOnCycle E p → ⊥
  outside_is_off test on p starts off c = go c.0 c.1
    where
      go : (others : List ℕ) → Leads E p others p → ⊥
      go [] w = let e = starts p w in cc
      go (q ∷ qs) w = let e = carried test on q qs p w.1 (starts q w.0) in cc

  -- who isn't among a set that has all before it, and all before who is in it
  before : (test : ℕ → Bool) → ((x y : ℕ) → E x y → test y ≡ true → test x ≡ true) → (b : ℕ) → ((x : ℕ) → E x b → test x ≡ true) → (p : ℕ) (others : List ℕ) → Leads E p others b → test p ≡ true
  before test back b into p [] w = into p w
  before test back b into p (q ∷ qs) w = back p q w.0 (before test back b into q qs w.1)

  pub behind_is_off : (test : ℕ → Bool) → ((x y : ℕ) → E x y → test y ≡ true → test x ≡ true) → (b : ℕ) → ((x : ℕ) → E x b → test x ≡ true) → test b ≡ false → IsOnCycle E b → ⊥
  behind_is_off test back b into f c = let e = before test back b into b c.0 c.1 in cc

  pub leads_more : (q : ℕ) (others : List ℕ) (z w : ℕ) → Leads E q others z → E z w → Leads E q (others ++ z ∷ []) w
  leads_more q [] z w h e = (h, e)
  leads_more q (x ∷ xs) z w h e = (h.0, leads_more x xs z w h.1 e)

  -- ---- a way by its last one

  linked_shorter : (a : ℕ) (xs : List ℕ) (b : ℕ) → Linked E a (xs ++ b ∷ []) → Linked E a xs
  linked_shorter a [] b w = tt
  linked_shorter a (x ∷ xs) b w = (w.0, linked_shorter x xs b w.1)

  linked_longer : (a : ℕ) (xs : List ℕ) (b c : ℕ) → Linked E a (xs ++ b ∷ []) → E b c → Linked E a ((xs ++ b ∷ []) ++ c ∷ [])
  linked_longer a [] b c w e = (w.0, (e, tt))
  linked_longer a (x ∷ xs) b c w e = (w.0, linked_longer x xs b c w.1 e)

  linked_round : (a : ℕ) (xs : List ℕ) (b z : ℕ) → Linked E a (xs ++ b ∷ []) → E b z → Leads E a (xs ++ b ∷ []) z
  linked_round a [] b z w e = (w.0, e)
  linked_round a (x ∷ xs) b z w e = (w.0, linked_round x xs b z w.1 e)

  pub way_shorter : (xs : List ℕ) (b : ℕ) → IsWay E (xs ++ b ∷ []) → IsWay E xs
  way_shorter [] b w = tt
  way_shorter (a ∷ zs) b w = linked_shorter a zs b w

  pub way_longer : (xs : List ℕ) (b c : ℕ) → IsWay E (xs ++ b ∷ []) → E b c → IsWay E ((xs ++ b ∷ []) ++ c ∷ [])
  way_longer [] b c w e = (e, tt)
  way_longer (a ∷ zs) b c w e = linked_longer a zs b c w e

  pub way_round : (a : ℕ) (zs : List ℕ) (b z : ℕ) → IsWay E (a ∷ zs ++ b ∷ []) → E b z → Leads E a (zs ++ b ∷ []) z
  way_round a zs b z w e = linked_round a zs b z w e

  way_tail : (a : ℕ) (zs : List ℕ) → IsWay (Back E) (a ∷ zs) → IsWay (Back E) zs
  way_tail a [] w = tt
  way_tail a (b ∷ bs) w = w.1

  -- ---- a way back

  reached : (a : ℕ) (xs : List ℕ) (b : ℕ) → Linked (Back E) a (xs ++ b ∷ []) → (others : List ℕ) × Leads E b others a
  reached a [] b w = ([], w.0)
  reached a (x ∷ xs) b w = let r = reached x xs b w.1 in (r.0 ++ x ∷ [], leads_more b r.0 x a r.1 w.0)

  -- one on the way leads to its end
  pub back_round : (xs : List ℕ) (b p : ℕ) → IsWay (Back E) (xs ++ b ∷ []) → 0 < times p (xs ++ b ∷ []) → E p b → IsOnCycle E b
  back_round [] b p w t e = go (either b p)
    where
      go : (b ≡ p) ⊎ (b ≢ p) → IsOnCycle E b
      go (inl k) = ([], subst (λ x. E x b) (sym k) e)
      go (inr d) = absurd (omega (arith, t, one_other b p d))
  back_round (a ∷ zs) b p w t e = go (either a p) (λ k. back_round zs b p (way_tail a (zs ++ b ∷ []) w) k e)
    where
      go : (a ≡ p) ⊎ (a ≢ p) → (0 < times p (zs ++ b ∷ []) → IsOnCycle E b) → IsOnCycle E b
      go (inl k) rest = let r = reached a zs b w in (r.0 ++ a ∷ [], leads_more b r.0 a b r.1 (subst (λ x. E x b) (sym k) e))
      go (inr d) rest = rest (omega (arith, t, sum_by-cons (λ y. cond (y == p) 1 0) a (zs ++ b ∷ []), one_other a p d))
