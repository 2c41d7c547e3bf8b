-- Sums over stays, over lines and over bays.
use Rattle.std.proofs.Common.{◌≡◌, ℕ, zero, suc, ◌+◌, ◌<◌, ◌≤◌, ◌⊎◌, inl, inr, eqb, Bool, true, false, List, [], ◌∷◌, length, filter, get_or, map, cond, refl, sym, ap, ◌∙◌, arith, eq-eqb}
use Rattle.std.specs.Prelude.{◌==◌, ◌&&◌, ◌||◌, nat_le, nat_lt}
use Rattle.std.specs.List.{sum_by, AllByRecursion}
use Rattle.std.proofs.lemmas.List.Sums.{sum_by-cons}
use Rattle.std.proofs.lemmas.Bool.{cases_lt, eqb-true, false≢true, le-leb, le-ltb, leb-true, lt-leb, lt-ltb}
use Rattle.fab_orders.specs.fab_lock.specs.declared.entry.Kind.{Kind}
use Rattle.fab_orders.specs.fab_lock.specs.declared.entry.Kind.TheVariants.{Line, Came, Ran, Saved, Left}
use Rattle.host_report.specs.fab_model.specs.declared.note.Note.{Note}
use Rattle.host_report.specs.fab_model.specs.declared.transit.Stay.{Stay}
use Rattle.host_report.specs.fab_model.specs.Deeds.{Deed}
use Rattle.host_report.specs.fab_model.specs.Histories.{next, stay_at, stay_now, stays_from, Away, Inside, Place}
use Rattle.host_report.specs.fab_model.specs.Moves as moves
use Rattle.host_report.specs.fab_model.specs.Stays.{chains}
use Rattle.host_report.specs.fab_model.specs.Tokens.{Token}
use Rattle.fab_orders.specs.Outcomes.{line_of}
use Rattle.fab_orders.specs.Totals.{total}
use Rattle.fab_orders.proofs.Totals.{total-append, total_each, total_none}
use Rattle.host_judge.specs.host_form.specs.Histories.{is_same, times, Chain, Visit}
use Rattle.host_report.specs.Told.{visit_of}
use Rattle.ten_files.specs.vl_base.proofs.Booleans.{or_false_right as or_false, and_parts as both, or_true_right as or_true, and_false_right as and_false, and_true_right as and_true}

pub differ : (a b : ℕ) → (a ≡ b → ⊥) → eqb a b ≡ false
differ a b n = step (eqb a b) refl
  where
    step : (x : Bool) → eqb a b ≡ x → x ≡ false
    step true h = absurd (n (eqb-true a b h))
    step false h = refl

pub differs : (a b : ℕ) → eqb a b ≡ false → a ≡ b → ⊥
differs a b h e = absurd (false≢true (sym h ∙ eq-eqb a b e))

-- a list has no member past its end
pub past : {X : Type 0} (xs : List X) (i : ℕ) (d : X) → length xs ≤ i → get_or xs i d ≡ d
past [] i d l = refl
past (x ∷ xs) zero d l = absurd (omega (arith, l))
past (x ∷ xs) (suc i) d l = past xs i d (omega (arith, l))

-- where each has the number of its place, none has a number past the end
pub total_beyond : {X : Type 0} (n : X → ℕ) (v : X → ℕ) (t : ℕ) (xs : List X) (from : ℕ) → from + length xs ≤ t → ((i : ℕ) (d : X) → i < length xs → n (get_or xs i d) ≡ from + i) → total (λ x. cond (eqb (n x) t) (v x) 0) xs ≡ 0
total_beyond n v t [] from l h = refl
total_beyond n v t (x ∷ xs) from l h =
    let first = h 0 x (omega arith) in
    let here : cond (eqb (n x) t) (v x) 0 ≡ 0 = ap (λ (b : Bool). cond b (v x) 0) (differ (n x) t (λ e. omega (arith, first, e, l))) in
    let rest = total_beyond n v t xs (suc from) (omega (arith, l)) (λ i d k. let r = h (suc i) d (omega (arith, k)) in omega (arith, r)) in
    omega (arith, here, rest)

-- ---- stays

abbrev pub weight : Visit → Stay → ℕ
weight v s = cond (is_same v (visit_of s)) 1 0

pub times_total : (v : Visit) (xs : List Stay) → times v (map visit_of xs) ≡ total (weight v) xs
times_total v [] = refl
times_total v (x ∷ xs) = step (is_same v (visit_of x)) (times_total v xs)
  where
    step : (b : Bool) → times v (map visit_of xs) ≡ total (weight v) xs → length (cond b (visit_of x ∷ filter (is_same v) (map visit_of xs)) (filter (is_same v) (map visit_of xs))) ≡ cond b 1 0 + total (weight v) xs
    step true r = omega (arith, r)
    step false r = omega (arith, r)

module _ (v : Visit) (g : ℕ) (other : eqb v.fabric g ≡ false) where
  weigh_now : (since now : ℕ) (c : Bool) (d : Deed) → total (weight v) (stay_now g since now c d) ≡ 0
  weigh_now since now true d = ap (λ (b : Bool). cond (b && (v.from == since) && (v.to == now)) 1 0 + 0) other
  weigh_now since now false d = refl

  weigh_at : (k : Kind) (p : Place) → total (weight v) (stay_at g k p) ≡ 0
  weigh_at Line p = refl
  weigh_at Came p = refl
  weigh_at Ran p = refl
  weigh_at Saved p = refl
  weigh_at Left Away = refl
  weigh_at Left (Inside since now c d) = weigh_now since now c d

  -- none of the stays on another fabric is this one
  pub weigh_from : (p : Place) (ns : List Note) → total (weight v) (stays_from g p ns) ≡ 0
  weigh_from p [] = refl
  weigh_from p (n ∷ ns) =
      let here = weigh_at n.entry.kind p in
      let rest = weigh_from (next n.entry.kind p n) ns in
      let both = total-append (weight v) (stay_at g n.entry.kind p) (stays_from g (next n.entry.kind p n) ns) in
      omega (arith, here, rest, both)

-- ---- lines

pub same_total : (f : Token → ℕ) (xs : List Token) → moves.total f xs ≡ total f xs
same_total f [] = refl
same_total f (x ∷ xs) = let r = same_total f xs in omega (arith, r)

abbrev pub counts : (t j : ℕ) → Token → ℕ
counts t j x = cond ((x.tenant == t) && (x.tick == j)) 1 0

abbrev pub one : Bool → ℕ
one b = cond b 1 0

with_true : (p q : Bool) → one (p && (q && true)) ≡ one (p && q)
with_true true true = refl
with_true true false = refl
with_true false q = refl

with_false : (p q : Bool) → one (p && (q && false)) ≡ 0
with_false true true = refl
with_false true false = refl
with_false false q = refl

pub lines_here : (t j g h : ℕ) (xs : List Token) → eqb h g ≡ true → total (line_of t j g h) xs ≡ total (counts t j) xs
lines_here t j g h xs e = total_each (line_of t j g h) (counts t j) (λ x. ap (λ (b : Bool). one ((x.tenant == t) && ((x.tick == j) && b))) e ∙ with_true (x.tenant == t) (x.tick == j)) xs

pub lines_other : (t j g h : ℕ) (xs : List Token) → eqb h g ≡ false → total (line_of t j g h) xs ≡ 0
lines_other t j g h xs e = total_none (line_of t j g h) (λ x. ap (λ (b : Bool). one ((x.tenant == t) && ((x.tick == j) && b))) e ∙ with_false (x.tenant == t) (x.tick == j)) xs

-- ---- numbers

and_zero : (p : Bool) → one (p && false) ≡ 0
and_zero true = refl
and_zero false = refl

-- it has ended where it begins
pub begins_never : (first k j : ℕ) (stopped fit : Bool) → first ≡ k → stopped ≡ false → one ((first == j) && ((nat_lt j k || stopped) && fit)) ≡ 0
begins_never first k j stopped fit e s =
    ap (λ (b : Bool). one ((first == j) && ((nat_lt j k || b) && fit))) s
    ∙ ap (λ (b : Bool). one ((first == j) && (b && fit))) (or_false (nat_lt j k)) ∙ by (cases_lt j k)
  where
    by : (j < k) ⊎ (k ≤ j) → one ((first == j) && (nat_lt j k && fit)) ≡ 0
    by (inl l) = ap (λ (b : Bool). one (b && (nat_lt j k && fit))) (differ first j (λ q. omega (arith, q, e, l)))
    by (inr l) = ap (λ (b : Bool). one ((first == j) && (b && fit))) (le-ltb j k l) ∙ and_zero (first == j)

-- it has ended later, or was stopped
pub begins_first : (first k j : ℕ) (stopped fit : Bool) → (first < k) ⊎ (stopped ≡ true) → one ((first == j) && ((nat_lt j k || stopped) && fit)) ≡ one (fit && (first == j))
begins_first first k j stopped fit l = by (first == j) refl
  where
    passes : (first < k) ⊎ (stopped ≡ true) → (first == j) ≡ true → (nat_lt j k || stopped) ≡ true
    passes (inl l) q = ap (λ (b : Bool). b || stopped) (lt-ltb j k (let e = eqb-true first j q in omega (arith, e, l)))
    passes (inr s) q = ap (λ (b : Bool). nat_lt j k || b) s ∙ or_true (nat_lt j k)

    by : (b : Bool) → (first == j) ≡ b → one (b && ((nat_lt j k || stopped) && fit)) ≡ one (fit && b)
    by true q = ap (λ (b : Bool). one (b && fit)) (passes l q) ∙ ap (λ (b : Bool). one b) (sym (and_true fit))
    by false q = sym (and_zero fit)

-- a move is done that stands below the tick at which it ended, or at that tick, where it is done there
abbrev pub past_by : (k j : ℕ) (moved : Bool) → Bool
past_by k j moved = nat_lt j k || ((k == j) && moved)

past_unmoved : (k j : ℕ) (moved : Bool) → moved ≡ false → past_by k j moved ≡ nat_lt j k
past_unmoved k j moved e =
    ap (λ (b : Bool). nat_lt j k || ((k == j) && b)) e ∙ ap (λ (b : Bool). nat_lt j k || b) (and_false (k == j)) ∙ or_false (nat_lt j k)

pub moves_unmoved : (first k j : ℕ) (moved goes : Bool) → moved ≡ false → one (goes && (nat_le first j && past_by k j moved)) ≡ one (goes && (nat_le first j && nat_lt j k))
moves_unmoved first k j moved goes e = ap (λ (b : Bool). one (goes && (nat_le first j && b))) (past_unmoved k j moved e)

pub moves_never : (first k j : ℕ) (moved goes : Bool) → first ≡ k → moved ≡ false → one (goes && (nat_le first j && past_by k j moved)) ≡ 0
moves_never first k j moved goes e m = moves_unmoved first k j moved goes m ∙ by (cases_lt j k)
  where
    by : (j < k) ⊎ (k ≤ j) → one (goes && (nat_le first j && nat_lt j k)) ≡ 0
    by (inl l) = ap (λ (b : Bool). one (goes && (b && nat_lt j k))) (lt-leb first j (omega (arith, l, e))) ∙ and_zero goes
    by (inr l) = ap (λ (b : Bool). one (goes && (nat_le first j && b))) (le-ltb j k l) ∙ with_false goes (nat_le first j)

pub moves_moved : (first k j : ℕ) (moved goes : Bool) → first ≤ k → moved ≡ true
    → one (goes && (nat_le first j && past_by k j moved)) ≡ one (goes && (nat_le first j && nat_lt j k)) + one (goes && (j == k))
moves_moved first k j moved goes l m =
    ap (λ (b : Bool). one (goes && (nat_le first j && (nat_lt j k || ((k == j) && b))))) m
    ∙ ap (λ (b : Bool). one (goes && (nat_le first j && (nat_lt j k || b)))) (and_true (k == j)) ∙ by (k == j) refl
  where
    none : (b : Bool) → one (goes && b) ≡ one (goes && b) + one (goes && false)
    none b = let z = and_zero goes in omega (arith, z)

    only : one (goes && true) ≡ one (goes && false) + one (goes && true)
    only = let z = and_zero goes in omega (arith, z)

    by : (b : Bool) → (k == j) ≡ b → one (goes && (nat_le first j && (nat_lt j k || b))) ≡ one (goes && (nat_le first j && nat_lt j k)) + one (goes && (j == k))
    by true q =
        let e = eqb-true k j q in
        let below : nat_lt j k ≡ false = le-ltb j k (omega (arith, e)) in
        let above : nat_le first j ≡ true = le-leb first j (omega (arith, e, l)) in
        let here : (j == k) ≡ true = eq-eqb j k (sym e) in
        ap (λ (b : Bool). one (goes && (nat_le first j && b))) (or_true (nat_lt j k))
        ∙ ap (λ (b : Bool). one (goes && (b && true))) above
        ∙ only
        ∙ ap (λ (b : Bool). one (goes && b) + one (goes && true)) (sym (and_false (nat_le first j)))
        ∙ ap (λ (b : Bool). one (goes && (nat_le first j && b)) + one (goes && true)) (sym below)
        ∙ ap (λ (b : Bool). one (goes && (nat_le first j && nat_lt j k)) + one (goes && b)) (sym here)
    by false q =
        let there : (j == k) ≡ false = differ j k (λ e. differs k j q (sym e)) in
        ap (λ (b : Bool). one (goes && (nat_le first j && b))) (or_false (nat_lt j k))
        ∙ none (nat_le first j && nat_lt j k)
        ∙ ap (λ (b : Bool). one (goes && (nat_le first j && nat_lt j k)) + one (goes && b)) (sym there)

-- a sum over a list is the same either way
pub sum_total : {X : Type 0} (w : X → ℕ) (xs : List X) → sum_by w xs ≡ total w xs
sum_total w [] = refl
sum_total w (x ∷ xs) = sum_by-cons w x xs ∙ ap (λ (n : ℕ). w x + n) (sum_total w xs)

-- ---- chains

pub chain_told : (s k : ℕ) (xs : List Stay) → chains s xs k ≡ true → Chain s (map visit_of xs) k × AllByRecursion (λ v. v.from ≤ v.to) (map visit_of xs)
chain_told s k [] c = (eqb-true s k c, tt)
chain_told s k (x ∷ xs) c =
    let a = both (x.from == s) (nat_le x.from x.to && chains x.to xs k) c in
    let b = both (nat_le x.from x.to) (chains x.to xs k) a.1 in
    let r = chain_told x.to k xs b.1 in
    ((eqb-true x.from s a.0, r.0), (leb-true x.from x.to b.0, r.1))
