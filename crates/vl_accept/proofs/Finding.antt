-- Processes by their numbers.
use Rattle.std.proofs.Common.{◌≡◌, ℕ, zero, suc, ◌<◌, Bool, true, List, [], ◌∷◌, ◌++◌, map, length, refl, sym, ap, ◌∙◌, subst, arith}
use Rattle.std.specs.Prelude.{◌⊎◌, slice_index_or, flat_map, All, Any}
use Rattle.std.specs.List.{list_any}
use Rattle.std.proofs.lemmas.Grind.{flat_map-append}
use Rattle.std.proofs.lemmas.List.Folds.{list_any-append}
use Rattle.std.proofs.lemmas.List.Elements.{All-head, All-tail}
use mathlib.Core.Logic.{inl, inr}
use Rattle.vl_runs.specs.vl_paths.proofs.Ways.{or_true, or_left, or_right}

-- numbers are the same, or one is less
pub same_or_not : (i j : ℕ) → (i ≡ j) ⊎ (i < j) ⊎ (j < i)
same_or_not i j = grind arith

-- the element of a number, with those before it and behind it
pub record At {X : Type 0} (xs : List X) (i : ℕ) : Type 0 where
  pub before : List X
  pub it : X
  pub after : List X
  pub split : xs ≡ before ++ (it ∷ after)
  pub long : length before ≡ i

-- an element of a mapped list is one of the list, or there is none
pub found : {X Y : Type 0} (f : X → Y) (idle : Y) (xs : List X) (i : ℕ) → ((x : At xs i) × (slice_index_or (map f xs) i idle ≡ f x.it)) ⊎ (slice_index_or (map f xs) i idle ≡ idle)
found f idle [] i = inr refl
found f idle (x ∷ xs) zero = inl (record { before = []; it = x; after = xs; split = refl; long = refl }, refl)
found f idle (x ∷ xs) (suc i) = elim (found f idle xs i) [
  | inl y ↦ inl (record { before = x ∷ y.0.before; it = y.0.it; after = y.0.after; split = ap (λ z. x ∷ z) y.0.split; long = ap suc y.0.long }, y.1)
  | inr e ↦ inr e
]

-- of two, the earlier stands before the later
cut : {X : Type 0} (bs : List X) (x : X) (xs cs : List X) (y : X) (ys : List X) → bs ++ (x ∷ xs) ≡ cs ++ (y ∷ ys) → length bs < length cs → (mid : List X) × (cs ≡ bs ++ (x ∷ mid))
cut [] x xs [] y ys e l = absurd (omega (arith, l))
cut [] x xs (c ∷ cs) y ys e l = let h : x ≡ c = cc in (cs, ap (λ z. z ∷ cs) (sym h))
cut (b ∷ bs) x xs [] y ys e l = absurd (omega (arith, l))
cut (b ∷ bs) x xs (c ∷ cs) y ys e l =
    let h : b ≡ c = cc in
    let k : bs ++ (x ∷ xs) ≡ cs ++ (y ∷ ys) = cc in
    let r = cut bs x xs cs y ys k (omega (arith, l)) in
    (r.0, ap (λ z. z ∷ cs) (sym h) ∙ ap (λ z. b ∷ z) r.1)

pub earlier : {X : Type 0} (xs : List X) (i j : ℕ) (x : At xs i) (y : At xs j) → i < j → (mid : List X) × (y.before ≡ x.before ++ (x.it ∷ mid))
earlier xs i j x y l = cut x.before x.it x.after y.before y.it y.after (sym x.split ∙ y.split) (omega (arith, l, x.long, y.long))

-- what holds of all holds of it
all_split : {X : Type 0} (P : X → Type 0) (before : List X) (x : X) (after : List X) → All P (before ++ (x ∷ after)) → P x
all_split P [] x after h = All-head P x after h
all_split P (y ∷ ys) x after h = all_split P ys x after (All-tail P y (ys ++ (x ∷ after)) h)

pub all_at : {X : Type 0} (P : X → Type 0) (xs : List X) (i : ℕ) (x : At xs i) → All P xs → P x.it
all_at P xs i x h = all_split P x.before x.it x.after (subst (λ ys. All P ys) x.split h)

pub all_index : {X : Type 0} (P : X → Type 0) (idle : X) (xs : List X) (i : ℕ) → P idle → All P xs → P (slice_index_or xs i idle)
all_index P idle [] i k h = k
all_index P idle (x ∷ xs) zero k h = All-head P x xs h
all_index P idle (x ∷ xs) (suc i) k h = all_index P idle xs i k (All-tail P x xs h)

-- what holds of it holds of some
there : {X : Type 0} (before : List X) (x : X) (after : List X) → slice_index_or (before ++ (x ∷ after)) (length before) x ≡ x
there [] x after = refl
there (y ∷ ys) x after = there ys x after

within : {X : Type 0} (before : List X) (x : X) (after : List X) → length before < length (before ++ (x ∷ after))
within [] x after = omega arith
within (y ∷ ys) x after = let h = within ys x after in omega (arith, h)

pub any_of : {X : Type 0} (P : X → Type 0) (xs : List X) (i : ℕ) (x : At xs i) → P x.it → Any P xs
any_of P xs i x h = subst (λ ys. Any P ys) (sym x.split) (length x.before, x.it, within x.before x.it x.after, there x.before x.it x.after, h)

-- ---- tests

-- the first that passes, with those before it and behind it
pub some_split : {X : Type 0} (f : X → Bool) (xs : List X) → list_any f xs ≡ true → (left : List X) × (x : X) × (right : List X) × (xs ≡ left ++ (x ∷ right)) × (f x ≡ true)
some_split f [] h = let z : ⊥ = cc in absurd z
some_split f (x ∷ xs) h = elim (or_true (f x) (list_any f xs) h) [
  | inl e ↦ ([], x, xs, refl, e)
  | inr g ↦ let i = some_split f xs g in (x ∷ i.0, i.1, i.2, ap (λ z. x ∷ z) i.3, i.4)
]

-- what passes among those of one passes among all
pub flat_any : {X Y : Type 0} (f : Y → Bool) (g : X → List Y) (before : List X) (x : X) (after : List X) → list_any f (g x) ≡ true → list_any f (flat_map g (before ++ (x ∷ after))) ≡ true
flat_any f g before x after h =
    ap (list_any f) (flat_map-append g before (x ∷ after)) ∙ (list_any-append f (flat_map g before) (g x ++ flat_map g after)
    ∙ or_right _ _ (list_any-append f (g x) (flat_map g after) ∙ or_left _ _ h))
