-- What tells clocks and connected outputs of an instance in an item.
use Rattle.std.proofs.Common.{◌≡◌, ℕ, Bool, true, false, not, ◌&&◌, List, sym, ap, ◌∙◌}
use Rattle.elab_kinds.specs.Facts.{Facts}
use Rattle.elab_instance.specs.declared.given.Above.{Above}
use Rattle.elab_instance.specs.declared.given.Above.TheVariants as a
use Rattle.elab_instance.specs.declared.given.Surroundings.{Surroundings}
use Rattle.elab_instance.specs.Given.{takes_clock, is_joined, clocks_by, wired_by}

and-true : (a b r : Bool) → a ≡ true → r ≡ b → r ≡ (a && b)
and-true a b r e h = h ∙ ap (λ z. z && b) (sym e)

and-false : (a b r : Bool) → a ≡ false → r ≡ false → r ≡ (a && b)
and-false a b r e h = h ∙ ap (λ z. z && b) (sym e)

module _ (told : List ℕ → Facts) (above : Above) (s : Surroundings) (t : List ℕ) (is : above ≡ a.Item s) (input : Bool) (same : input ≡ (told t).input) where
  pub clock-input : (r : Bool) → input ≡ true → r ≡ takes_clock s t → r ≡ clocks_by told above t
  clock-input r e h = and-true (told t).input (takes_clock s t) r (sym same ∙ e) h ∙ ap (λ z. clocks_by told z t) (sym is)

  pub clock-output : input ≡ false → input ≡ clocks_by told above t
  clock-output e = and-false (told t).input (takes_clock s t) input (sym same ∙ e) e ∙ ap (λ z. clocks_by told z t) (sym is)

  pub wired-output : (r : Bool) → input ≡ false → r ≡ is_joined s t → r ≡ wired_by told above t
  wired-output r e h = and-true (not (told t).input) (is_joined s t) r (sym (ap not same) ∙ ap not e) h ∙ ap (λ z. wired_by told z t) (sym is)

  pub wired-input : input ≡ true → not input ≡ wired_by told above t
  wired-input e = and-false (not (told t).input) (is_joined s t) (not input) (sym (ap not same) ∙ ap not e) (ap not e) ∙ ap (λ z. wired_by told z t) (sym is)
