-- How far tenants have come, as seats know.
use Rattle.std.proofs.Common.{◌≡◌, ℕ, zero, suc, ◌+◌, ◌<◌, ◌≤◌, eqb, Bool, true, false, cond, max, List, [], ◌∷◌, ◌++◌, length, get_or, set, refl, sym, ap, subst, arith, eq-eqb}
use Rattle.std.specs.Prelude.{All}
use Rattle.std.proofs.lemmas.Bool.{eqb-true}
use Rattle.std.proofs.lemmas.List.Elements.{All-head, All-tail}
use Rattle.fab_core.specs.fab_lock.specs.Histories.{high, StartsWith}
use Rattle.fab_core.specs.fab_lock.specs.Views.{after_glance}
use Rattle.fab_core.specs.fab_model.specs.declared.note.Note.{Note}
use Rattle.fab_core.specs.fab_model.specs.Histories.{entry_of}
use Rattle.fab_desk.specs.Desks.{serving, DeskView}
use Rattle.fab_rounds.specs.Ledgers.{heard, reach, reach_in, DeskSeatFacts}

-- ---- histories

higher : (c : Bool) (k a b : ℕ) → a ≤ b → cond c (max k a) a ≤ cond c (max k b) b
higher true k a b up = omega arith
higher false k a b up = up

pub high_more : (t : ℕ) (xs ys : List Note) → high entry_of t xs ≤ high entry_of t (xs ++ ys)
high_more t [] ys = omega arith
high_more t (x ∷ xs) ys = higher (eqb x.entry.tenant t) x.entry.to (high entry_of t xs) (high entry_of t (xs ++ ys)) (high_more t xs ys)

-- a beginning goes no further
pub high_starts : (t : ℕ) (xs ys : List Note) → StartsWith xs ys → high entry_of t ys ≤ high entry_of t xs
high_starts t xs ys s = subst (λ (l : List Note). high entry_of t ys ≤ high entry_of t l) (sym s.1) (high_more t ys s.0)

over_one : (b : Bool) (k a : ℕ) → b ≡ true → k ≤ cond b (max k a) a
over_one true k a e = omega arith
over_one false k a e = let z : ⊥ = cc in absurd z

over_rest : (b : Bool) (k a : ℕ) → a ≤ cond b (max k a) a
over_rest true k a = omega arith
over_rest false k a = omega arith

pub high_head : (t : ℕ) (n : Note) (ns : List Note) → n.entry.tenant ≡ t → n.entry.to ≤ high entry_of t (n ∷ ns)
high_head t n ns e = over_one (eqb n.entry.tenant t) n.entry.to (high entry_of t ns) (eq-eqb n.entry.tenant t e)

pub high_tail : (t : ℕ) (n : Note) (ns : List Note) → high entry_of t ns ≤ high entry_of t (n ∷ ns)
high_tail t n ns = over_rest (eqb n.entry.tenant t) n.entry.to (high entry_of t ns)

-- the last note's tick
pub high_last : (t : ℕ) (xs : List Note) (n : Note) → n.entry.tenant ≡ t → n.entry.to ≤ high entry_of t (xs ++ n ∷ [])
high_last t [] n e = high_head t n [] e
high_last t (x ∷ xs) n e = let a = high_last t xs n e in let b = high_tail t x (xs ++ n ∷ []) in omega (arith, a, b)

-- ---- what was found

heard_by : (b : Bool) (k a m : ℕ) → (b ≡ true → k ≤ m) → a ≤ m → cond b (max k a) a ≤ m
heard_by true k a m h l = let x = h refl in omega (arith, x, l)
heard_by false k a m h l = l

-- no word of the tenant is above this
pub heard_within : (t m : ℕ) (words : List (ℕ × ℕ)) → All (λ w. w.0 ≡ t → w.1 ≤ m) words → heard t words ≤ m
heard_within t m [] h = omega arith
heard_within t m (w ∷ ws) h = heard_by (eqb w.0 t) w.1 (heard t ws) m (λ e. All-head (λ (x : ℕ × ℕ). x.0 ≡ t → x.1 ≤ m) w ws h (eqb-true w.0 t e)) (heard_within t m ws (All-tail (λ (x : ℕ × ℕ). x.0 ≡ t → x.1 ≤ m) w ws h))

heard_more : (t : ℕ) (w : ℕ × ℕ) (ws : List (ℕ × ℕ)) → heard t ws ≤ heard t (w ∷ ws)
heard_more t w ws = over_rest (eqb w.0 t) w.1 (heard t ws)

heard_head : (t k : ℕ) (ws : List (ℕ × ℕ)) → k ≤ heard t ((t, k) ∷ ws)
heard_head t k ws = over_one (eqb t t) k (heard t ws) (eq-eqb t t refl)

-- ---- one seat

-- a call at a desk
module _ (s s' : DeskSeatFacts) (found added : List Note) (is : s'.view ≡ serving s.view found added) where
  seen_is : s'.view.seen ≡ found ++ added
  seen_is = ap (λ (v : DeskView). v.seen) is

  known_is : s'.view.known ≡ s.view.known
  known_is = ap (λ (v : DeskView). v.known) is

  pub served_high : (t : ℕ) → high entry_of t (found ++ added) ≤ reach t s'
  served_high t = let a = ap (high entry_of t) seen_is in omega (arith, a)

  pub served_reach : StartsWith found s.view.seen → (t : ℕ) → reach t s ≤ reach t s'
  served_reach b t =
      let a = high_starts t found s.view.seen b in
      let c = high_more t found added in
      let d = ap (high entry_of t) seen_is in
      let e = ap (heard t) known_is in
      omega (arith, a, c, d, e)

-- a look at the progress word of tenant n
module _ (s s' : DeskSeatFacts) (n k : ℕ) (is : s'.view ≡ after_glance s.view n k) where
  pub glanced_reach : (t : ℕ) → reach t s ≤ reach t s'
  glanced_reach t =
      let a = ap (λ (v : DeskView). high entry_of t v.seen) is in
      let b = ap (λ (v : DeskView). heard t v.known) is in
      let c = heard_more t (n, k) s.view.known in
      omega (arith, a, b, c)

  pub glanced_far : k ≤ reach n s'
  glanced_far = let b = ap (λ (v : DeskView). heard n v.known) is in let c = heard_head n k s.view.known in omega (arith, b, c)

  pub glanced_all : high entry_of n s.view.seen ≤ k → All (λ w. w.0 ≡ n → w.1 ≤ k) s.view.known → reach n s ≤ k
  glanced_all a h = let b = heard_within n k s.view.known h in omega (arith, a, b)

-- ---- all seats

pub reach_at : (t : ℕ) (seats : List DeskSeatFacts) (i : ℕ) (d : DeskSeatFacts) → i < length seats → reach t (get_or seats i d) ≤ reach_in t seats
reach_at t [] i d l = absurd (omega (arith, l))
reach_at t (s ∷ ss) zero d l = omega arith
reach_at t (s ∷ ss) (suc i) d l = let a = reach_at t ss i d (omega (arith, l)) in omega (arith, a)

pub reach_set : (t : ℕ) (seats : List DeskSeatFacts) (i : ℕ) (old seat : DeskSeatFacts) → i < length seats → reach t (get_or seats i old) ≤ reach t seat → reach_in t seats ≤ reach_in t (set seats i seat)
reach_set t [] i old seat l h = omega arith
reach_set t (s ∷ ss) zero old seat l h = omega (arith, h)
reach_set t (s ∷ ss) (suc i) old seat l h = let a = reach_set t ss i old seat (omega (arith, l)) h in omega (arith, a)

pub reach_within : (t m : ℕ) (seats : List DeskSeatFacts) → ((i : ℕ) (d : DeskSeatFacts) → i < length seats → reach t (get_or seats i d) ≤ m) → reach_in t seats ≤ m
reach_within t m [] h = omega arith
reach_within t m (s ∷ ss) h = let a = h 0 s (omega arith) in let b = reach_within t m ss (λ i d l. h (suc i) d (omega (arith, l))) in omega (arith, a, b)

pub reach_pop : (t : ℕ) (xs : List DeskSeatFacts) (x : DeskSeatFacts) → reach_in t (xs ++ x ∷ []) ≤ max (reach_in t xs) (reach t x)
reach_pop t [] x = omega arith
reach_pop t (y ∷ ys) x = let a = reach_pop t ys x in omega (arith, a)
