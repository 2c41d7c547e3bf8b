-- Booleans: laws that many proofs use.
use Rattle.std.proofs.Common.{Bool, false, refl, sym, true, true≢false, ◌&&◌, ◌-◌, ◌||◌, ◌≡◌}
use Rattle.std.proofs.lemmas.Bool.{false≢true}
use Rattle.std.specs.Prelude.{not, ◌&&◌, ◌||◌, ◌⊎◌}
use mathlib.Core.Logic.{inl, inr}

pub or_false_right : (a : Bool) → (a || false) ≡ a
or_false_right true = refl
or_false_right false = refl

pub and_parts : (a b : Bool) → (a && b) ≡ true → (a ≡ true) × (b ≡ true)
and_parts true b e = (refl, e)
and_parts false b e = absurd cc

pub not_false : (b : Bool) → not b ≡ false → b ≡ true
not_false true h = refl
not_false false h = absurd (true≢false h)

pub and_left : (a z : Bool) → (a && z) ≡ true → a ≡ true
and_left true z h = refl
and_left false z h = h

pub or_right_true : (f r : Bool) → r ≡ true → (f || r) ≡ true
or_right_true true r h = refl
or_right_true false r h = h

pub never_both : (x : Bool) → x ≡ true → x ≡ false → ⊥
never_both x e h = cc

pub false_by : (b : Bool) → (b ≡ true → ⊥) → b ≡ false
false_by true h = absurd (h refl)
false_by false h = refl

pub or_true_right : (b : Bool) → (b || true) ≡ true
or_true_right true = refl
or_true_right false = refl

pub and_right : (a b : Bool) → (a && b) ≡ true → b ≡ true
and_right true b e = e
and_right false b e = cc

pub and_false_right : (b : Bool) → (b && false) ≡ false
and_false_right true = refl
and_false_right false = refl

pub not_true_false : (c : Bool) → not c ≡ true → c ≡ false
not_true_false true e = absurd (cc)
not_true_false false e = refl

pub or_left_false : (a b : Bool) → (a || b) ≡ false → a ≡ false
or_left_false true b h = h
or_left_false false b h = refl

pub or_right_false : (a b : Bool) → (a || b) ≡ false → b ≡ false
or_right_false true b h = cc
or_right_false false b h = h

pub or_both_false : (a b : Bool) → a ≡ false → b ≡ false → (a || b) ≡ false
or_both_false a b h k = rw (h, k) refl

pub or_left_true : (a b : Bool) → a ≡ true → (a || b) ≡ true
or_left_true true b h = refl
or_left_true false b h = cc

pub and_both : (a b : Bool) → a ≡ true → b ≡ true → (a && b) ≡ true
and_both a b e f = rw (e, f) refl

pub or_assoc : (a b c : Bool) → ((a || b) || c) ≡ (a || (b || c))
or_assoc true b c = refl
or_assoc false b c = refl

pub or_comm : (a b : Bool) → (a || b) ≡ (b || a)
or_comm true true = refl
or_comm true false = refl
or_comm false true = refl
or_comm false false = refl

pub or_cases : (a b : Bool) → (a || b) ≡ true → (a ≡ true) ⊎ (b ≡ true)
or_cases true b h = inl refl
or_cases false b h = inr h

pub or_parts_false : (a b : Bool) → (a || b) ≡ false → (a ≡ false) × (b ≡ false)
or_parts_false true b h = absurd (cc)
or_parts_false false b h = (refl, h)

pub and_of_false : (a b : Bool) → b ≡ false → (a && b) ≡ false
and_of_false true b h = h
and_of_false false b h = refl

pub or_assoc_back : (b c d : Bool) → (b || (c || d)) ≡ ((b || c) || d)
or_assoc_back true c d = refl
or_assoc_back false c d = refl

pub and_true_right : (a : Bool) → (a && true) ≡ a
and_true_right true = refl
and_true_right false = refl

pub true_or_false : (a : Bool) → (a ≡ true) ⊎ (a ≡ false)
true_or_false true = inl refl
true_or_false false = inr refl

pub and_false_back : (a : Bool) → false ≡ (a && false)
and_false_back true = refl
and_false_back false = refl

pub or_and_false : (old n : Bool) → (old || (n && false)) ≡ old
or_and_false true n = refl
or_and_false false true = refl
or_and_false false false = refl

pub or_other_true : (f r : Bool) → (f || r) ≡ true → f ≡ false → r ≡ true
or_other_true true r e h = let z : ⊥ = cc in absurd z
or_other_true false r e h = e

pub same_by_both : (p q : Bool) → (p ≡ true → q ≡ true) → (q ≡ true → p ≡ true) → p ≡ q
same_by_both true q f g = sym (f refl)
same_by_both false true f g = g refl
same_by_both false false f g = refl

pub and_assoc : (a b c : Bool) → ((a && b) && c) ≡ (a && (b && c))
and_assoc true b c = refl
and_assoc false b c = refl

pub or_unless_both : (f r e : Bool) → (not f && (not r || not e)) ≡ false → (f || r) ≡ true
or_unless_both true r e h = refl
or_unless_both false true e h = refl
or_unless_both false false e h = let z : ⊥ = cc in absurd z

pub not_by_both : (f r e : Bool) → (not f && (not r || not e)) ≡ true → f ≡ false
not_by_both true r e h = let z : ⊥ = cc in absurd z
not_by_both false r e h = refl

pub or_there_too : (f u l : Bool) → (f || (u && l)) ≡ true → (f || (not f && u)) ≡ true
or_there_too true u l e = refl
or_there_too false true l e = refl
or_there_too false false l e = let z : ⊥ = cc in absurd z

pub or_then : (x w y : Bool) → x ≡ w → x ≡ true → x ≡ (w || y)
or_then x true y e h = h
or_then x false y e h = let z : ⊥ = cc in absurd z

pub or_else : (x w y : Bool) → w ≡ false → x ≡ y → x ≡ (w || y)
or_else x true y e h = let z : ⊥ = cc in absurd z
or_else x false y e h = h

pub or_and_or : (r n f g : Bool) → ((r || (n && f)) || (n && g)) ≡ (r || (n && (f || g)))
or_and_or true n f g = refl
or_and_or false true f g = refl
or_and_or false false f g = refl

pub and_three : (a b c x y z : Bool) → (a ≡ true → x ≡ true) → (b ≡ true → y ≡ true) → (c ≡ true → z ≡ true) → (a && b && c) ≡ true → (x && (y && z)) ≡ true
and_three true true true x y z f g h e = rw (f refl) (rw (g refl) (h refl))
and_three true true false x y z f g h e = cc
and_three true false c x y z f g h e = cc
and_three false b c x y z f g h e = cc

pub from_true_false : {X : Type 0} → true ≡ false → X
from_true_false e = absurd (false≢true (sym e))
