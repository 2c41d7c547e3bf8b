-- Scopes whose functions differ in their bodies alone.
use Rattle.std.proofs.Common.{◌≡◌, ◌∙◌, ℕ, List, Some, subst, sym, ap}
use Rattle.std.specs.Prelude.{All, slice_get, unwrap_or}
use Rattle.std.proofs.lemmas.List.Elements.{All-get_or}
use Rattle.std.proofs.lemmas.Option.{slice_get-get_or, slice_get_within}
use Rattle.vl_design.specs.Syntax.{Fun}
use Rattle.vl_design.specs.Width.{Scope, result_form, input_widths}
pub use Rattle.vl_base.proofs.Lists.{all_get as at_holds}

-- the scope with other functions, whose calls give this
abbrev pub with_funs : Scope → List Fun → (ℕ → List ℕ → ℕ) → Scope
with_funs scope funs call = record scope { names = record (scope.names) { funs = funs }; call = call }

-- the functions have the same results and inputs, and their calls give the same
pub record Alike (scope : Scope) (funs : List Fun) (call : ℕ → List ℕ → ℕ) : Type 0 where
  pub results : (f : ℕ) → result_form (record (scope.names) { funs = funs }) f ≡ result_form scope.names f
  pub inputs : (f : ℕ) → input_widths (record (scope.names) { funs = funs }) f ≡ input_widths scope.names f
  pub calls : (f : ℕ) (args : List ℕ) → call f args ≡ scope.call f args

some_is : {A : Type 0} {x y : A} → Some x ≡ Some y → x ≡ y
some_is {x = x} e = ap (λ o. unwrap_or o x) e
