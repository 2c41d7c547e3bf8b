-- Lists made item by item.
use Rattle.std.proofs.Common.{◌≡◌, refl, ap, sym, ◌∙◌, ℕ, ◌+◌, ◌<◌, ◌++◌, List, [], ◌∷◌, length, map, get_or, take}
use Rattle.std.specs.Prelude.{flat_map, Option}
use Rattle.std.proofs.lemmas.Grind.{common_steps}
use Rattle.std.proofs.lemmas.List.{take_more, map-append, flat_map_more}
use Rattle.vl_design.specs.declared.stop.Stop.{Stop}
use Rattle.vl_design.specs.Stops.{earliest}
use Rattle.vl_design.proofs.Earliest.{earliest-append}
pub use Rattle.vl_design.specs.vl_base.proofs.Lists.{map_take_more as map-more}

-- what one more item gives stands behind what those before it give
pub each-more : {A B C : Type 0} (f : B → List C) (g : A → B) (bs : List C) (xs : List A) (i : ℕ) (y : A) → i < length xs → y ≡ get_or xs i y
    → (bs ++ flat_map f (map g (take i xs))) ++ f (g y) ≡ bs ++ flat_map f (map g (take (i + 1) xs))
each-more f g bs xs i y h is = flat_map_more f bs (map g (take i xs)) (g y) ∙ ap (λ z. bs ++ flat_map f z) (sym (map-more g xs i y h is))

flat-last : {A B : Type 0} (f : A → List B) (xs : List A) (x : A) → flat_map f (xs ++ x ∷ []) ≡ flat_map f xs ++ f x
flat-last f xs x = sym (flat_map_more f [] xs x)

-- the first fault of one more item and of those before it
pub first-more : {A B : Type 0} (f : B → List Stop) (g : A → B) (best : Option Stop) (xs : List A) (i : ℕ) (y : A) → i < length xs → y ≡ get_or xs i y
    → earliest (earliest best (flat_map f (map g (take i xs)))) (f (g y)) ≡ earliest best (flat_map f (map g (take (i + 1) xs)))
first-more f g best xs i y h is =
    sym (earliest-append best (flat_map f (map g (take i xs))) (f (g y)))
    ∙ ap (earliest best) (sym (flat-last f (map g (take i xs)) (g y)) ∙ ap (flat_map f) (sym (map-more g xs i y h is)))

pub map-twice : {A B C : Type 0} (f : B → C) (g : A → B) (xs : List A) → map f (map g xs) ≡ map (λ x. f (g x)) xs
map-twice f g [] = refl
map-twice f g (x ∷ xs) = ap (λ z. f (g x) ∷ z) (map-twice f g xs)

pub ruleset firsts = (common_steps, earliest-append, first-more)
