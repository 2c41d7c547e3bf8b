-- Whether a tenant is refused.
use Rattle.std.proofs.Common.{◌≡◌, ℕ, ◌<◌, ◌≤◌, Bool, true, false, List, [], ◌∷◌, length, get_or, take, map, refl, sym, ap, ◌∙◌, Option, Some, None}
use Rattle.std.specs.Prelude.{◌||◌, is_some}
use Rattle.std.specs.List.{list_any}
use Rattle.std.proofs.lemmas.List.{take_all}
use Rattle.std.proofs.lemmas.List.Folds.{list_any_at}
use Rattle.host_form.specs.declared.refusal.Refusal.{Refusal}
use Rattle.host_report.specs.Ends.{is_refused}

any_some : (refusals : List (Option Refusal)) → list_any (λ x. x) (map is_refused refusals) ≡ list_any (λ r. is_some r) refusals
any_some [] = refl
any_some (None ∷ rs) = ap (λ (b : Bool). false || b) (any_some rs)
any_some (Some r ∷ rs) = ap (λ (b : Bool). true || b) (any_some rs)

-- one is, at a number
pub some_at : (refusals : List (Option Refusal)) (i : ℕ) (d : Option Refusal) → i < length refusals → d ≡ get_or refusals i d → is_some d ≡ true
    → true ≡ list_any (λ x. x) (map is_refused refusals)
some_at refusals i d lt e t =
    sym (any_some refusals ∙ list_any_at (λ r. is_some r) refusals i d lt (ap (λ (x : Option Refusal). is_some x) (sym e) ∙ t))

-- none is
pub none_of : (refusals : List (Option Refusal)) (i : ℕ) → length refusals ≤ i → list_any (λ r. is_some r) (take i refusals) ≡ false
    → false ≡ list_any (λ x. x) (map is_refused refusals)
none_of refusals i l e =
    sym (any_some refusals ∙ ap (λ (rs : List (Option Refusal)). list_any (λ r. is_some r) rs) (sym (take_all i refusals l)) ∙ e)
