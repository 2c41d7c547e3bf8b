-- One more item of a list that a loop goes over.
use Rattle.std.proofs.Common.{◌≡◌, ℕ, ◌+◌, ◌<◌, Bool, List, [], ◌∷◌, ◌++◌, length, map, take, get_or, Some, refl, sym, ap, ◌∙◌, arith}
use Rattle.std.specs.Prelude.{fold, position, option_map, if◌then◌else◌}
use Rattle.std.proofs.lemmas.List.{map_push, take_more}
use Rattle.std.proofs.lemmas.List.Sums.{fold-append}
use Rattle.std.proofs.lemmas.Bool.Decides.{nat_tests}
pub use Rattle.elab_plain.specs.vl_base.proofs.Lists.{map_take_more as seen-more}

-- a step for one more item of a list
pub fold-turn : {A X Y : Type 0} (f : A → Y → A) (see : X → Y) (start before after : A) (xs : List X) (i : ℕ) (y : X) → i < length xs → y ≡ get_or xs i y
    → before ≡ fold f start (map see (take i xs)) → after ≡ f before (see y) → after ≡ fold f start (map see (take (i + 1) xs))
fold-turn f see start before after xs i y l e h step =
    step ∙ ap (λ a. f a (see y)) h ∙ sym (ap (fold f start) (seen-more see xs i y l e) ∙ fold-append f start (map see (take i xs)) (see y ∷ []))

-- the same where the item is read by its number
pub fold-turn-at : {A X Y : Type 0} (f : A → Y → A) (see : X → Y) (start before after : A) (xs : List X) (i : ℕ) (d : X) → i < length xs
    → before ≡ fold f start (map see (take i xs)) → after ≡ f before (see (get_or xs i d)) → after ≡ fold f start (map see (take (i + 1) xs))
fold-turn-at f see start before after xs i d l h step =
    step ∙ ap (λ a. f a (see (get_or xs i d))) h
    ∙ sym (ap (λ zs. fold f start (map see zs)) (take_more xs i d l) ∙ ap (fold f start) (map_push see (take i xs) (get_or xs i d)) ∙ fold-append f start (map see (take i xs)) (see (get_or xs i d) ∷ []))

-- ---- the first of a list

pub position-cons : {X : Type 0} (p : X → Bool) (y : X) (xs : List X) → position p (y ∷ xs) ≡ (if p y then Some 0 else option_map (λ k. k + 1) (position p xs))
position-cons p y xs = grind (arith, nat_tests)

pub position-map : {X Y : Type 0} (p : Y → Bool) (see : X → Y) (xs : List X) → position (λ y. p (see y)) xs ≡ position p (map see xs)
position-map p see [] = refl
position-map p see (y ∷ xs) =
    position-cons (λ y. p (see y)) y xs ∙ ap (λ o. if p (see y) then Some 0 else option_map (λ k. k + 1) o) (position-map p see xs) ∙ sym (position-cons p (see y) (map see xs))
