-- Selects of constants, and concatenations of nets, one by one.
use Rattle.std.proofs.Common.{◌≡◌, refl, ap, sym, ◌∙◌, ℕ, ◌+◌, ◌<◌, ◌≤◌, Bool, true, false, List, [], ◌∷◌, length, get_or, drop}
use Rattle.std.specs.Prelude.{◌&&◌}
use Rattle.std.proofs.lemmas.List.{at_drop_more, at_drop_all}
use Rattle.elab_plain.specs.vl_flat.specs.Surface as x
use Rattle.elab_plain.specs.vl_flat.specs.Scopes.{Env}
use Rattle.elab_plain.specs.vl_flat.specs.Expressions.{is_constant}
use Rattle.elab_plain.specs.vl_flat.specs.Connections.{are_constant}
use Rattle.elab_plain.specs.declared.surface.Select as s
use Rattle.elab_plain.specs.Seen.{seen, selects_before}
use Rattle.vl_base.proofs.Booleans.{and_assoc as and-more}

and-all : (b : Bool) → b ≡ (b && true)
and-all true = refl
and-all false = refl

-- a test of all that is left
pub test-step : {A : Type 0} (F : List A → Bool) (f : A → Bool) → ((y : A) (ys : List A) → F (y ∷ ys) ≡ (f y && F ys)) → (es : List A) (i : ℕ) (y : A) (a v n r : Bool)
    → i < length es → y ≡ get_or es i y → v ≡ f y → n ≡ (a && v) → (a && F (drop i es)) ≡ r → (n && F (drop (i + 1) es)) ≡ r
test-step F f cons es i y a v n r h is k j inv =
    ap (λ z. z && F (drop (i + 1) es)) (j ∙ ap (λ z. a && z) k)
    ∙ (and-more a (f y) (F (drop (i + 1) es))
    ∙ (sym (ap (λ z. a && z) (at_drop_more F es i y h ∙ (ap (λ z. F (z ∷ drop (i + 1) es)) (sym is) ∙ cons y (drop (i + 1) es)))) ∙ inv))

pub test-finish : {A : Type 0} (F : List A → Bool) → F [] ≡ true → (es : List A) (i : ℕ) (a r : Bool) → length es ≤ i → (a && F (drop i es)) ≡ r → a ≡ r
test-finish F none es i a r h inv = and-all a ∙ (sym (ap (λ z. a && z) (at_drop_all F es i h ∙ none)) ∙ inv)

-- the first of some selects, and the others
pub first-select : (E : Env) (y : s.Select) (ys : List s.Select) → are_constant E (selects_before (y ∷ ys) x.NoSelects) ≡ (are_constant E (selects_before (y ∷ []) x.NoSelects) && are_constant E (selects_before ys x.NoSelects))
first-select E (s.Index q i) ys = ap (λ b. b && are_constant E (selects_before ys x.NoSelects)) (and-all (is_constant E (seen i)))
first-select E (s.Range q m l r) ys =
    ap (λ b. is_constant E (seen l) && (b && are_constant E (selects_before ys x.NoSelects))) (and-all (is_constant E (seen r)))
    ∙ sym (and-more (is_constant E (seen l)) (is_constant E (seen r) && true) (are_constant E (selects_before ys x.NoSelects)))
