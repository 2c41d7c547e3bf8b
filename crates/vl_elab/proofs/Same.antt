-- Functions of the design part by part.
use Rattle.std.proofs.Common.{◌≡◌, ap, ◌∙◌, ℕ, List}
use Rattle.vl_design.specs.vl_base.specs.declared.place.Place.{Place}
use Rattle.vl_design.specs.declared.design.Signal.{Signal}
use Rattle.vl_design.specs.Placed.{Func, Stm}

abbrev pub made : Place → ℕ → List ℕ → List ℕ → List Signal → Stm → Func
made at result name inputs locals body = record { name = name; place = at; inputs = inputs; result = result; locals = locals; body = body }

pub same-func : (at : Place) (r : ℕ) (n m : List ℕ) (i j : List ℕ) (k l : List Signal) (a b : Stm) → n ≡ m → i ≡ j → k ≡ l → a ≡ b → made at r n i k a ≡ made at r m j l b
same-func at r n m i j k l a b h1 h2 h3 h4 =
    ap (λ z. made at r z i k a) h1 ∙ (ap (λ z. made at r m z k a) h2 ∙ (ap (λ z. made at r m j z a) h3 ∙ ap (made at r m j l) h4))
