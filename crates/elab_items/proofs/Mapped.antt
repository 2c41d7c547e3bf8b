-- Two lists that give the same, each with one more item.
use Rattle.std.proofs.Common.{◌≡◌, ap, sym, ◌∙◌, ℕ, ◌+◌, ◌<◌, ◌++◌, List, [], ◌∷◌, length, map, get_or, take}
use Rattle.std.proofs.lemmas.List.{take_more, map-append}
use Rattle.vl_tree.specs.vl_base.proofs.Lists.{map_take_more as map-more}

-- the items made so far give what those read so far give, and the next ones give the same
pub both-more : {A B C : Type 0} (f : A → C) (g : B → C) (made : List A) (a : A) (xs : List B) (i : ℕ) (y : B) → map f made ≡ map g (take i xs) → i < length xs → y ≡ get_or xs i y → f a ≡ g y
    → map f (made ++ a ∷ []) ≡ map g (take (i + 1) xs)
both-more f g made a xs i y so_far h is one =
    map-append f made (a ∷ []) ∙ (ap (λ z. z ++ f a ∷ []) so_far ∙ (ap (λ z. map g (take i xs) ++ z ∷ []) one ∙ sym (map-more g xs i y h is)))
