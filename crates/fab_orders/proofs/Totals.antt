-- Sums over lists.
use Rattle.std.proofs.Common.{◌≡◌, ℕ, zero, suc, ◌+◌, ◌<◌, eqb, cond, List, [], ◌∷◌, ◌++◌, length, get_or, set, map, take, drop, refl, ap, arith, true, false, Bool, eq-eqb}
use Rattle.std.specs.List.{insert}
use Rattle.std.specs.Prelude.{All}
use Rattle.std.proofs.lemmas.List.Elements.{All-head, All-tail}
use Rattle.std.proofs.lemmas.List.{take-append-drop}
use Rattle.std.proofs.lemmas.Bool.{eqb-true}
use Rattle.fab_orders.specs.Totals.{total}

pub total-append : {X : Type 0} (f : X → ℕ) (xs ys : List X) → total f (xs ++ ys) ≡ total f xs + total f ys
total-append f [] ys = omega arith
total-append f (x ∷ xs) ys = omega (arith, total-append f xs ys)

pub total-set : {X : Type 0} (f : X → ℕ) (xs : List X) (i : ℕ) (y d : X) → i < length xs → total f (set xs i y) + f (get_or xs i d) ≡ total f xs + f y
total-set f [] i y d l = absurd (omega arith)
total-set f (x ∷ xs) zero y d l = omega arith
total-set f (x ∷ xs) (suc i) y d l = omega (arith, total-set f xs i y d (omega arith))

pub total-map : {X Y : Type 0} (f : Y → ℕ) (h : X → Y) (xs : List X) → total f (map h xs) ≡ total (λ x. f (h x)) xs
total-map f h [] = omega arith
total-map f h (x ∷ xs) = omega (arith, total-map f h xs)

pub total_none : {X : Type 0} (f : X → ℕ) → ((x : X) → f x ≡ 0) → (xs : List X) → total f xs ≡ 0
total_none f z [] = omega arith
total_none f z (x ∷ xs) = omega (arith, z x, total_none f z xs)

-- where f sums to nothing, so does what is nothing where f is
pub total_zero : {X : Type 0} (f g : X → ℕ) → ((x : X) → f x ≡ 0 → g x ≡ 0) → (xs : List X) → total f xs ≡ 0 → total g xs ≡ 0
total_zero f g h [] e = omega arith
total_zero f g h (x ∷ xs) e = omega (arith, h x (omega arith), total_zero f g h xs (omega arith))

pub total_all : {X : Type 0} (P : X → Type 0) (f : X → ℕ) → ((x : X) → P x → f x ≡ 0) → (xs : List X) → All P xs → total f xs ≡ 0
total_all P f z [] a = refl
total_all P f z (x ∷ xs) a = omega (arith, z x (All-head P x xs a), total_all P f z xs (All-tail P x xs a))

pub total_each : {X : Type 0} (f g : X → ℕ) → ((x : X) → f x ≡ g x) → (xs : List X) → total f xs ≡ total g xs
total_each f g h [] = refl
total_each f g h (x ∷ xs) = omega (arith, h x, total_each f g h xs)

cond_sum : (b : Bool) (m n : ℕ) → cond b (m + n) 0 ≡ cond b m 0 + cond b n 0
cond_sum true m n = refl
cond_sum false m n = refl

-- each of these weighs what it does by one weight, or by another, or by both
pub total_split : {X : Type 0} (P : X → Type 0) (w u v : X → ℕ) (p q : Bool) → ((x : X) → P x → w x ≡ cond p (u x) 0 + cond q (v x) 0) → (xs : List X) → All P xs → total w xs ≡ cond p (total u xs) 0 + cond q (total v xs) 0
total_split P w u v true true h [] a = refl
total_split P w u v true false h [] a = refl
total_split P w u v false true h [] a = refl
total_split P w u v false false h [] a = refl
total_split P w u v p q h (x ∷ xs) a = omega (
  arith,
  h x (All-head P x xs a),
  total_split P w u v p q h xs (All-tail P x xs a),
  cond_sum p (u x) (total u xs),
  cond_sum q (v x) (total v xs),
)

pub total-insert : {X : Type 0} (f : X → ℕ) (xs : List X) (i : ℕ) (x : X) → total f (insert xs i x) ≡ total f xs + f x
total-insert f xs i x = omega (
  arith,
  total-append f (take i xs) (x ∷ drop i xs),
  total-append f (take i xs) (drop i xs),
  ap (total f) (take-append-drop i xs),
)

pub total_pop : {X : Type 0} (f : X → ℕ) (ys xs : List X) (x : X) → ys ≡ xs ++ x ∷ [] → total f ys ≡ total f xs + f x
total_pop f ys xs x e = omega (arith, ap (total f) e, total-append f xs (x ∷ []))

pub total_same : {X Y : Type 0} (f : X → ℕ) (g : Y → ℕ) (xs : List X) (ys : List Y) → length xs ≡ length ys → ((i : ℕ) (d : X) (e : Y) → i < length ys → f (get_or xs i d) ≡ g (get_or ys i e)) → total f xs ≡ total g ys
total_same f g [] [] l h = refl
total_same f g [] (y ∷ ys) l h = absurd (omega arith)
total_same f g (x ∷ xs) [] l h = absurd (omega arith)
total_same f g (x ∷ xs) (y ∷ ys) l h = omega (arith, h 0 x y (omega arith), total_same f g xs ys (omega arith) (λ i d e k. h (suc i) d e (omega arith)))

-- two sums against two others
pub total_tied : {X Y : Type 0} (f g : X → ℕ) (h k : Y → ℕ) (xs : List X) (ys : List Y) → length xs ≡ length ys → ((i : ℕ) (d : X) (e : Y) → i < length ys → f (get_or xs i d) + k (get_or ys i e) ≡ h (get_or ys i e) + g (get_or xs i d))
    → total f xs + total k ys ≡ total h ys + total g xs
total_tied f g h k [] [] l t = refl
total_tied f g h k [] (y ∷ ys) l t = absurd (omega arith)
total_tied f g h k (x ∷ xs) [] l t = absurd (omega arith)
total_tied f g h k (x ∷ xs) (y ∷ ys) l t = omega (arith, t 0 x y (omega arith), total_tied f g h k xs ys (omega arith) (λ i d e j. t (suc i) d e (omega arith)))

-- ---- numbers in order

cond_true : (b : Bool) (x : ℕ) → b ≡ true → cond b x 0 ≡ x
cond_true b x e = ap (λ (c : Bool). cond c x 0) e

cond_false : (b : Bool) (x : ℕ) → b ≡ false → cond b x 0 ≡ 0
cond_false b x e = ap (λ (c : Bool). cond c x 0) e

-- where the numbers of all are others, nothing is there
pub total_past : {X : Type 0} (n : X → ℕ) (v : X → ℕ) (t : ℕ) (xs : List X) (from : ℕ) → t < from → ((i : ℕ) (d : X) → i < length xs → n (get_or xs i d) ≡ from + i) → total (λ x. cond (eqb (n x) t) (v x) 0) xs ≡ 0
total_past n v t [] from l h = refl
total_past n v t (x ∷ xs) from l h = omega (
  arith,
  cond_false (eqb (n x) t) (v x) (other (n x) (omega (arith, h 0 x (omega arith)))),
  total_past n v t xs (suc from) (omega arith) (λ i d k. omega (arith, h (suc i) d (omega arith))),
)
  where
    by : (a : ℕ) (b : Bool) → eqb a t ≡ b → t < a → b ≡ false
    by a true e k = absurd (let q = eqb-true a t e in omega (arith, q))
    by a false e k = refl

    other : (a : ℕ) → t < a → eqb a t ≡ false
    other a k = by a (eqb a t) refl k

-- where each has the number of its place, from one on, only the one of number t counts
pub total_at : {X : Type 0} (n : X → ℕ) (v : X → ℕ) (t : ℕ) (xs : List X) (from k : ℕ) (d : X) → t ≡ from + k → k < length xs → ((i : ℕ) (d : X) → i < length xs → n (get_or xs i d) ≡ from + i) → total (λ x. cond (eqb (n x) t) (v x) 0) xs ≡ v (get_or xs k d)
total_at n v t [] from k d e l h = absurd (omega arith)
total_at n v t (x ∷ xs) from zero d e l h = omega (
  arith,
  cond_true (eqb (n x) t) (v x) (eq-eqb (n x) t (omega (arith, h 0 x (omega arith)))),
  total_past n v t xs (suc from) (omega arith) (λ i d j. omega (arith, h (suc i) d (omega arith))),
)
total_at n v t (x ∷ xs) from (suc k) d e l h = omega (
  arith,
  cond_false (eqb (n x) t) (v x) (other (n x) (omega (arith, h 0 x (omega arith)))),
  total_at n v t xs (suc from) k d (omega arith) (omega arith) (λ i d j. omega (arith, h (suc i) d (omega arith))),
)
  where
    by : (a : ℕ) (b : Bool) → eqb a t ≡ b → a < t → b ≡ false
    by a true e k = absurd (let q = eqb-true a t e in omega (arith, q))
    by a false e k = refl

    other : (a : ℕ) → a < t → eqb a t ≡ false
    other a k = by a (eqb a t) refl k
