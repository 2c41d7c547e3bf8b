-- First calls of names, and faults behind others.
use Rattle.std.proofs.Common.{◌≡◌, ◌≢◌, ℕ, zero, suc, ◌+◌, ◌<◌, ◌≤◌, ◌==◌, Bool, true, false, List, [], ◌∷◌, ◌++◌, map, take, drop, length, get_or, refl, sym, ap, ◌∙◌, subst, arith}
use Rattle.std.specs.Prelude.{◌⊎◌, ◌&&◌, not, nat_lt, if◌then◌else◌, Option}
use Rattle.std.proofs.lemmas.List.{take_more, map-append, at_drop_more, length_push, length-map}
use mathlib.Core.Logic.{inl, inr}
use Rattle.vl_design.specs.declared.stop.Stop.{Stop}
use Rattle.vl_design.specs.Stops.{earliest, limit_if}
use Rattle.vl_design.proofs.Earliest.{over}
use Rattle.vl_check.specs.declared.calls.Save.{Save as Call}
use Rattle.vl_check.specs.Saves.{Save, is_given, with_new, with_firsts, is_past, save_faults}
use Rattle.vl_check.specs.SeenOfSaves.{save_of, Tells}

halves : (n : ℕ) → n ≤ 16 → (n + 1 ≤ 16) ⊎ (n ≡ 16)
halves n h = grind arith

is-other : (n : ℕ) → n ≢ 16 → (n == 16) ≡ false
is-other n h = grind arith

fewer : (n : ℕ) → n ≤ 16 → nat_lt n 17 ≡ true
fewer n h = grind arith

below : (n : ℕ) → nat_lt n 17 ≡ true → n < 17
below n h = grind arith

both : (a b : Bool) → (a && not b) ≡ true → (a ≡ true) × (b ≡ false)
both true false h = (refl, refl)
both true true h = let z : ⊥ = cc in absurd z
both false b h = let z : ⊥ = cc in absurd z

one : (a b : Bool) → (a && not b) ≡ false → a ≡ true → b ≡ true
one true true h e = refl
one true false h e = let z : ⊥ = cc in absurd z
one false b h e = let z : ⊥ = cc in absurd z

longer : (calls : List Save) (c : Save) → length calls ≤ length (with_new calls c)
longer calls c = by (is_given calls c)
  where
    by : (t : Bool) → length calls ≤ length (if t then calls else calls ++ (c ∷ []))
    by true = omega arith
    by false = let l = length_push calls c in omega (arith, l)

-- ---- the first calls, or 17 of them

pushed : (some all : List Save) (c : Save) → Tells some all → length some < 17 → is_given some c ≡ false → Tells (some ++ (c ∷ [])) (with_new all c)
pushed some all c (inr h) l g = let n = h.0 in absurd (omega (arith, n, l))
pushed some all c (inl h) l g =
    let e : with_new all c ≡ some ++ (c ∷ []) = ap (λ z. with_new z c) (sym h.0) ∙ ap (λ t. if t then some else some ++ (c ∷ [])) g in
    let n = length_push some c in
    elim (halves (length some) h.1) [
      | inl k ↦ inl (sym e, omega (arith, n, k))
      | inr k ↦ inr (omega (arith, n, k), let m = ap length e in omega (arith, m, n, k))
    ]

kept : (some all : List Save) (c : Save) → Tells some all → (nat_lt (length some) 17 ≡ true → is_given some c ≡ true) → Tells some (with_new all c)
kept some all c (inl h) g =
    let e : with_new all c ≡ some = ap (λ z. with_new z c) (sym h.0) ∙ ap (λ t. if t then some else some ++ (c ∷ [])) (g (fewer (length some) h.1)) in
    inl (sym e, h.1)
kept some all c (inr h) g = let n = longer all c in let m = h.1 in inr (h.0, omega (arith, n, m))

pub pushed-tells : (ones new : List Call) (call : Call) (t : Bool) → t ≡ (nat_lt (length ones) 17 && not (is_given (map save_of ones) (save_of call))) → t ≡ true → new ≡ ones ++ (call ∷ []) →
    (all : List Save) → Tells (map save_of ones) all → Tells (map save_of new) (with_new all (save_of call))
pushed-tells ones new call t h e k all told =
    let w = both (nat_lt (length ones) 17) (is_given (map save_of ones) (save_of call)) (sym h ∙ e) in
    let n = length-map ones save_of in
    let l = below (length ones) w.0 in
    subst (λ zs. Tells zs (with_new all (save_of call))) (sym (ap (map save_of) k ∙ map-append save_of ones (call ∷ [])))
    (pushed (map save_of ones) all (save_of call) told (omega (arith, n, l)) w.1)

pub kept-tells : (ones : List Call) (call : Call) (t : Bool) → t ≡ (nat_lt (length ones) 17 && not (is_given (map save_of ones) (save_of call))) → t ≡ false →
    (all : List Save) → Tells (map save_of ones) all → Tells (map save_of ones) (with_new all (save_of call))
kept-tells ones call t h e all told =
    kept (map save_of ones) all (save_of call) told
    (λ l. one (nat_lt (length ones) 17) (is_given (map save_of ones) (save_of call)) (sym h ∙ e) (ap (λ n. nat_lt n 17) (sym (length-map ones save_of)) ∙ l))

past-tells : (some all : List Save) (c : Save) → Tells some all → is_past some c ≡ is_past all c
past-tells some all c (inl h) = ap (λ z. is_past z c) h.0
past-tells some all c (inr h) =
    let n = h.0 in
    let m = h.1 in
    ap (λ t. t && not (is_given some c)) (is-other (length some) (λ e. omega (arith, n, e)))
    ∙ sym (ap (λ t. t && not (is_given all c)) (is-other (length all) (λ e. omega (arith, m, e))))

firsts-more : (calls cs : List Save) (c : Save) → with_firsts calls (cs ++ (c ∷ [])) ≡ with_new (with_firsts calls cs) c
firsts-more calls [] c = refl
firsts-more calls (a ∷ as') c = firsts-more (with_new calls a) as' c

-- ---- one call more

taken-more : (cs : List Call) (i : ℕ) (y : Call) → i < length cs → y ≡ get_or cs i y → map save_of (take (i + 1) cs) ≡ map save_of (take i cs) ++ (save_of y ∷ [])
taken-more cs i y h is = ap (map save_of) (take_more cs i y h ∙ ap (λ z. take i cs ++ (z ∷ [])) (sym is)) ∙ map-append save_of (take i cs) (y ∷ [])

tells-next : (cs : List Call) (i : ℕ) (y : Call) (ones new : List Save) → i < length cs → y ≡ get_or cs i y → Tells ones (with_firsts [] (map save_of (take i cs))) →
    ((all : List Save) → Tells ones all → Tells new (with_new all (save_of y))) → Tells new (with_firsts [] (map save_of (take (i + 1) cs)))
tells-next cs i y ones new h is told next =
    subst (λ zs. Tells new zs) (sym (ap (with_firsts []) (taken-more cs i y h is) ∙ firsts-more [] (map save_of (take i cs)) (save_of y))) (next (with_firsts [] (map save_of (take i cs))) told)

faults-next : (cs : List Call) (i : ℕ) (y : Call) (ones : List Save) (t : Bool) (best next r : Option Stop) → i < length cs → y ≡ get_or cs i y → Tells ones (with_firsts [] (map save_of (take i cs))) →
    t ≡ is_past ones (save_of y) → next ≡ earliest best (limit_if t y.place 10) → earliest best (save_faults (map save_of (take i cs)) (map save_of (drop i cs))) ≡ r →
    earliest next (save_faults (map save_of (take (i + 1) cs)) (map save_of (drop (i + 1) cs))) ≡ r
faults-next cs i y ones t best next r h is told past k inv =
    let before = map save_of (take i cs) in
    let c = save_of y in
    let left = map save_of (drop (i + 1) cs) in
    ap (λ z. earliest next (save_faults z left)) (taken-more cs i y h is)
    ∙ (over best next (limit_if (is_past (with_firsts [] before) c) c.at 10) (save_faults (before ++ (c ∷ [])) left)
    (k ∙ ap (λ z. earliest best (limit_if z y.place 10)) (past ∙ past-tells ones (with_firsts [] before) c told))
    ∙ (sym (ap (λ z. earliest best (save_faults before (map save_of z))) (at_drop_more (λ z. z) cs i y h ∙ ap (λ z. z ∷ drop (i + 1) cs) (sym is))) ∙ inv))

-- the same, of the one at a place
same-at : (cs : List Call) (i : ℕ) (d e : Call) → i < length cs → get_or cs i d ≡ get_or cs i e
same-at [] i d e l = absurd (omega arith)
same-at (x ∷ xs) zero d e l = refl
same-at (x ∷ xs) (suc i) d e l = same-at xs i d e (omega arith)

pub tells-at : (cs : List Call) (i : ℕ) (d : Call) (ones new : List Save) → i < length cs → Tells ones (with_firsts [] (map save_of (take i cs))) →
    ((all : List Save) → Tells ones all → Tells new (with_new all (save_of (get_or cs i d)))) → Tells new (with_firsts [] (map save_of (take (i + 1) cs)))
tells-at cs i d ones new h told next = tells-next cs i (get_or cs i d) ones new h (same-at cs i d (get_or cs i d) h) told next

pub faults-at : (cs : List Call) (i : ℕ) (d : Call) (items shown : List Call) (t : Bool) (best next r : Option Stop) → i < length cs → Tells (map save_of items) (with_firsts [] (map save_of (take i cs))) → shown ≡ items →
    t ≡ is_past (map save_of shown) (save_of (get_or cs i d)) → next ≡ earliest best (limit_if t (get_or cs i d).place 10) → earliest best (save_faults (map save_of (take i cs)) (map save_of (drop i cs))) ≡ r →
    earliest next (save_faults (map save_of (take (i + 1) cs)) (map save_of (drop (i + 1) cs))) ≡ r
faults-at cs i d items shown t best next r h told same past k inv =
    faults-next cs i (get_or cs i d) (map save_of items) t best next r h (same-at cs i d (get_or cs i d) h) told (past ∙ ap (λ (z : List Call). is_past (map save_of z) (save_of (get_or cs i d))) same) k inv
