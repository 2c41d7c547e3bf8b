-- Planned errands are in order, have names that are fit for files, and move to fabrics that are large enough.
use Rattle.std.proofs.Common.{◌≡◌, ℕ, Bool, true, false, cond, ◌&&◌, ◌||◌, ◌==◌, nat_lt, nat_le, not, List, [], ◌∷◌, map, filter, length, Option, Some, None, refl, sym, ap, ◌∙◌, subst, arith}
use Rattle.std.specs.List.{AllByRecursion, IsDistinct, list_all}
use Rattle.std.proofs.lemmas.Bool.{ltb-false, eq-eqb}
use Rattle.ten_core.specs.vl_design.specs.Cost.{Cost}
use Rattle.elab_laws.specs.vl_uses.specs.Calls as uses
use Rattle.elab_laws.specs.Names.{IsNamedDue, is_named}
use Rattle.host_files.specs.host_text.specs.Words as words
use Rattle.host_files.specs.host_text.specs.declared.script.FabricLine.{FabricLine}
use Rattle.host_files.specs.host_text.specs.Scripts.{comes_before, is_save}
use Rattle.host_files.specs.host_text.specs.Laws.{AreOrdered, IsSpeltDue, are_doubled, is_same_due}
use Rattle.elab_laws.specs.ten_plan.specs.declared.plan.Due.{Due}
use Rattle.elab_laws.specs.ten_plan.specs.declared.plan.Due.TheVariants as due
use Rattle.elab_laws.specs.ten_plan.specs.declared.plan.Errand.{Errand}
use Rattle.elab_laws.specs.ten_plan.specs.Plans as known
use Rattle.elab_laws.specs.ten_plan.specs.Plans.{due_of, errand_of, may_precede, move_at, move_to, or_else}
use Rattle.host_files.specs.host_form.specs.Origins.{is_planned, has_room}
use Rattle.ten_core.specs.vl_base.proofs.Booleans.{or_comm as swapped}

-- ---- order

by-dues : (a b : Due) → (is_save b && not (is_save a)) ≡ false → is_same_due a b ≡ false → known.is_save (due_of a) ≡ true
by-dues (due.Save n) b e f = refl
by-dues (due.Move g) (due.Save n) e f = let z : ⊥ = cc in absurd z
by-dues (due.Move g) (due.Move h) e f = let z : ⊥ = cc in absurd z
by-dues (due.Move g) due.Stop e f = let z : ⊥ = cc in absurd z
by-dues due.Stop (due.Save n) e f = let z : ⊥ = cc in absurd z
by-dues due.Stop (due.Move h) e f = let z : ⊥ = cc in absurd z
by-dues due.Stop due.Stop e f = let z : ⊥ = cc in absurd z

-- at one tick
by-tick : (m n : ℕ) (a b : Due) → (s t : Bool) → (m == n) ≡ s → (n == m) ≡ t → m ≡ n → (t && is_save b && not (is_save a)) ≡ false → (s && is_same_due a b) ≡ false → (s && known.is_save (due_of a)) ≡ true
by-tick m n a b true true p q e f g = by-dues a b f g
by-tick m n a b false t p q e f g = let z : ⊥ = let k = sym p ∙ eq-eqb m n e in cc in absurd z
by-tick m n a b true false p q e f g = let z : ⊥ = let k = sym q ∙ eq-eqb n m (sym e) in cc in absurd z

-- the one that stands first may precede the other
precedes : (x y : Errand) → comes_before y x ≡ false → are_doubled x y ≡ false → may_precede (errand_of x) (errand_of y) ≡ true
precedes x y f g = by (nat_lt x.tick y.tick) (nat_lt y.tick x.tick) refl refl f
  where
    by : (l m : Bool) → nat_lt x.tick y.tick ≡ l → nat_lt y.tick x.tick ≡ m → (m || (y.tick == x.tick && is_save y.due && not (is_save x.due))) ≡ false
        → (l || (x.tick == y.tick && known.is_save (due_of x.due))) ≡ true
    by true m p q h = refl
    by false true p q h = let z : ⊥ = cc in absurd z
    by false false p q h =
        let same : x.tick ≡ y.tick = let a = ltb-false x.tick y.tick p in let b = ltb-false y.tick x.tick q in omega (arith, a, b) in
        by-tick x.tick y.tick x.due y.due (x.tick == y.tick) (y.tick == x.tick) refl refl same h g

behind : (p : Errand → Bool) (x : Errand) (es : List Errand) → AllByRecursion (λ y. comes_before y x ≡ false) es → AllByRecursion (λ y. are_doubled x y ≡ false) es
    → AllByRecursion (λ f. may_precede (errand_of x) f ≡ true) (map errand_of (filter p es))
behind p x [] h k = tt
behind p x (e ∷ es) h k = by (p e) (behind p x es h.1 k.1)
  where
    by : (b : Bool) → AllByRecursion (λ f. may_precede (errand_of x) f ≡ true) (map errand_of (filter p es))
        → AllByRecursion (λ f. may_precede (errand_of x) f ≡ true) (map errand_of (cond b (e ∷ filter p es) (filter p es)))
    by true rest = (precedes x e h.0 k.0, rest)
    by false rest = rest

pub ordered : (p : Errand → Bool) (es : List Errand) → AreOrdered es → IsDistinct are_doubled es → known.AreOrdered (map errand_of (filter p es))
unfolding IsDistinct
ordered p [] h k = tt
ordered p (e ∷ es) h k = by (p e) (ordered p es h.1 k.1)
  where
    by : (b : Bool) → known.AreOrdered (map errand_of (filter p es)) → known.AreOrdered (map errand_of (cond b (e ∷ filter p es) (filter p es)))
    by true rest = (behind p e es h.0 k.0, rest)
    by false rest = rest

-- ---- names

same-byte : (b : ℕ) → words.is_save_byte b ≡ uses.is_name_byte b
same-byte b =
    ap (λ (z : Bool). z || (nat_le 48 b && nat_le b 57) || b == 95 || b == 45 || b == 46) (swapped (nat_le 65 b && nat_le b 90) (nat_le 97 b && nat_le b 122))

same-bytes : (text : List ℕ) → list_all words.is_save_byte text ≡ list_all uses.is_name_byte text
same-bytes [] = refl
same-bytes (b ∷ bs) = ap (λ (z : Bool). z && list_all words.is_save_byte bs) (same-byte b) ∙ ap (λ (z : Bool). uses.is_name_byte b && z) (same-bytes bs)

named : (text : List ℕ) → words.is_save_name text ≡ true → is_named text ≡ true
named text e = sym (ap (λ (z : Bool). nat_le 1 (length text) && nat_le (length text) 32 && z) (same-bytes text)) ∙ e

named-due : (d : Due) → IsSpeltDue d → IsNamedDue (due_of d)
named-due (due.Save name) h = named name h
named-due (due.Move g) h = tt
named-due due.Stop h = tt

pub all-named : (p : Errand → Bool) (es : List Errand) → AllByRecursion (λ e. IsSpeltDue e.due) es → AllByRecursion (λ e. IsNamedDue e.due) (map errand_of (filter p es))
all-named p [] h = tt
all-named p (e ∷ es) h = by (p e) (all-named p es h.1)
  where
    by : (b : Bool) → AllByRecursion (λ e. IsNamedDue e.due) (map errand_of (filter p es)) → AllByRecursion (λ e. IsNamedDue e.due) (map errand_of (cond b (e ∷ filter p es) (filter p es)))
    by true rest = (named-due e.due h.0, rest)
    by false rest = rest

-- ---- moves

module _ (fabrics : List FabricLine) (c : Cost) (tick g : ℕ) where
  abbrev planned : Errand → Bool
  planned e = is_planned fabrics c e.due

  by-due : (t : Bool) (d : Due) (rest : Option ℕ) → is_planned fabrics c d ≡ true → (rest ≡ Some g → has_room fabrics c g ≡ true)
      → or_else (cond t (move_to (due_of d)) None) rest ≡ Some g → has_room fabrics c g ≡ true
  by-due false d rest h k e = k e
  by-due true (due.Save n) rest h k e = k e
  by-due true due.Stop rest h k e = k e
  by-due true (due.Move f) rest h k e = let same : f ≡ g = cc in subst (λ (n : ℕ). has_room fabrics c n ≡ true) same h

  pub has-room : (es : List Errand) → move_at tick (map errand_of (filter planned es)) ≡ Some g → has_room fabrics c g ≡ true
  has-room [] e = let z : ⊥ = cc in absurd z
  has-room (x ∷ xs) e = by (planned x) refl (has-room xs) e
    where
      by : (b : Bool) → planned x ≡ b → (move_at tick (map errand_of (filter planned xs)) ≡ Some g → has_room fabrics c g ≡ true)
          → move_at tick (map errand_of (cond b (x ∷ filter planned xs) (filter planned xs))) ≡ Some g → has_room fabrics c g ≡ true
      by true h k f = by-due (x.tick == tick) x.due (move_at tick (map errand_of (filter planned xs))) h k f
      by false h k f = k f
