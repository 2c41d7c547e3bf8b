-- What holds of each element of a list holds of one, and where a list is cut.
use Rattle.std.proofs.Common.{◌≡◌, ℕ, zero, suc, ◌+◌, ◌<◌, Bool, false, List, [], ◌∷◌, ◌++◌, take, drop, length, refl, sym, ap, ◌∙◌, subst, arith}
use Rattle.std.specs.Prelude.{get_or}
use Rattle.std.specs.List.{AllByRecursion, IsDistinct}
use Rattle.std.proofs.lemmas.List.{take-append-drop, drop_more}
use Rattle.std.proofs.lemmas.Map.Keys.{IsDistinct-head, IsDistinct-tail}
pub use Rattle.ten_core.specs.vl_base.proofs.Lists.{all_push as push-each}

pub at-place : {X : Type 0} (P : X → Type 0) (xs : List X) (n : ℕ) (d : X) → n < length xs → AllByRecursion P xs → P (get_or xs n d)
at-place P [] n d below h = absurd (omega (arith, below))
at-place P (x ∷ xs) zero d below h = h.0
at-place P (x ∷ xs) (suc n) d below h = at-place P xs n d (omega (arith, below)) h.1

-- an element is apart from those before it
pub apart-before : {X : Type 0} (e : X → X → Bool) (xs : List X) (n : ℕ) (d : X) → n < length xs → IsDistinct e xs → AllByRecursion (λ x. e x (get_or xs n d) ≡ false) (take n xs)
apart-before e [] n d below h = absurd (omega (arith, below))
apart-before e (x ∷ xs) zero d below h = tt
apart-before e (x ∷ xs) (suc n) d below h =
    (at-place (λ y. e x y ≡ false) xs n d (omega (arith, below)) (IsDistinct-head e x xs h), apart-before e xs n d (omega (arith, below)) (IsDistinct-tail e x xs h))

pub cut-at : {X : Type 0} (xs : List X) (n : ℕ) (d : X) → n < length xs → xs ≡ take n xs ++ get_or xs n d ∷ drop (n + 1) xs
cut-at xs n d below = sym (take-append-drop n xs) ∙ ap (λ ys. take n xs ++ ys) (drop_more xs n d below)

-- ---- what holds of each element and those before it

pub each-of-one : {X : Type 0} (P : List X → X → Type 0) (x : X) → P [] x → (before after : List X) (y : X) → x ∷ [] ≡ before ++ y ∷ after → P before y
each-of-one P x h [] after y e = let same : x ≡ y = cc in subst (λ z. P [] z) same h
each-of-one P x h (b ∷ []) after y e = absurd (cc)
each-of-one P x h (b ∷ c ∷ cs) after y e = absurd (cc)

pub each-of-both : {X : Type 0} (P : List X → X → Type 0) (xs ys : List X) → ((before after : List X) (x : X) → xs ≡ before ++ x ∷ after → P before x)
    → ((before after : List X) (x : X) → ys ≡ before ++ x ∷ after → P (xs ++ before) x) → (before after : List X) (x : X) → xs ++ ys ≡ before ++ x ∷ after → P before x
each-of-both P [] ys h g before after x e = g before after x e
each-of-both P (k ∷ ks) ys h g [] after x e = let same : k ≡ x = cc in subst (λ z. P [] z) same (h [] ks k refl)
each-of-both P (k ∷ ks) ys h g (b ∷ bs) after x e =
    let same : k ≡ b = cc in
    let rest : ks ++ ys ≡ bs ++ x ∷ after = cc in
    subst (λ z. P (z ∷ bs) x) same
    (each-of-both (λ zs z. P (k ∷ zs) z) ks ys (λ before' after' x' e'. h (k ∷ before') after' x' (ap (λ zs. k ∷ zs) e')) g bs after x rest)
