-- What stands at a place in two lists.
use Rattle.std.proofs.Common.{◌≡◌, ap, sym, ◌∙◌, ℕ, ◌<◌, ◌≤◌, List, map, length, get_or, inl, inr, true≢false}
use Rattle.std.specs.Prelude.{◌⊎◌, Option, Some, None, is_some, option_map, slice_get}
use Rattle.std.proofs.lemmas.Option.{slice_get-map, slice_get_cases, get_or_from_slice_get}

of-some : {A : Type 0} → A → Option A → A
of-some d None = d
of-some d (Some x) = x

same-some : {A : Type 0} (x y : A) → Some x ≡ Some y → x ≡ y
unfolding of-some
same-some x y h = ap (of-some x) h

pub at-place : {A B C : Type 0} (f : A → C) (g : B → C) (xs : List A) (ys : List B) (k : ℕ) (d : A) (y : B)
    → map f xs ≡ map g ys → slice_get ys k ≡ Some y → f (get_or xs k d) ≡ g y
at-place {A} {B} {C} f g xs ys k d y h s = go (slice_get_cases xs k).1
  where
    both : option_map f (slice_get xs k) ≡ Some (g y)
    both = sym (slice_get-map f xs k) ∙ (ap (λ z. slice_get z k) h ∙ (slice_get-map g ys k ∙ ap (option_map g) s))

    go : ((x : A) × (k < length xs) × (slice_get xs k ≡ Some x) × (get_or xs k x ≡ x)) ⊎ ((length xs ≤ k) × (slice_get xs k ≡ None)) → f (get_or xs k d) ≡ g y
    go (inl (x, _, is, _)) = ap f (get_or_from_slice_get xs k x d is) ∙ same-some (f x) (g y) (sym (ap (option_map f) is) ∙ both)
    go (inr (_, is)) = absurd (true≢false (sym (ap is_some (sym (ap (option_map f) is) ∙ both))))
