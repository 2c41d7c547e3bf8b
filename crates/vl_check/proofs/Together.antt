-- The first of faults of four kinds.
use Rattle.std.proofs.Common.{◌≡◌, List, sym, subst}
use Rattle.std.specs.Prelude.{◌⊎◌, Option, None}
use Rattle.vl_design.specs.declared.stop.Stop.{Stop}
use Rattle.vl_design.specs.Stops.{earliest}
use Rattle.vl_design.specs.First.{In, IsFirst}
use Rattle.vl_design.proofs.FirstsOfStops.{earliest-In}
use Rattle.vl_design.specs.Firsts.{first_of}
use Rattle.vl_design.proofs.Both.{first-both}

in-list : (fs : List Stop) (r : Option Stop) → r ≡ earliest None fs → IsFirst (λ f. In f fs) r
in-list fs r e = subst (λ (o : Option Stop). IsFirst (λ f. In f fs) o) (sym e) (earliest-In fs)

pub first-four : (as' ds : List Stop) (B C : Stop → Type 0) (a b c d x y r : Option Stop) → a ≡ earliest None as' → IsFirst B b → IsFirst C c → d ≡ earliest None ds →
    x ≡ first_of c d → y ≡ first_of b x → r ≡ first_of a y → IsFirst (λ f. In f as' ⊎ (B f ⊎ (C f ⊎ In f ds))) r
first-four as' ds B C a b c d x y r ha hb hc hd hx hy hr =
    let D : Stop → Type 0 = λ f. In f ds in
    let first-x : IsFirst (λ f. C f ⊎ D f) x = subst (λ (o : Option Stop). IsFirst (λ f. C f ⊎ D f) o) (sym hx) (first-both C D c d hc (in-list ds d hd)) in
    let first-y : IsFirst (λ f. B f ⊎ (C f ⊎ D f)) y = subst (λ (o : Option Stop). IsFirst (λ f. B f ⊎ (C f ⊎ D f)) o) (sym hy) (first-both B (λ f. C f ⊎ D f) b x hb first-x) in
    subst (λ (o : Option Stop). IsFirst (λ f. In f as' ⊎ (B f ⊎ (C f ⊎ D f))) o) (sym hr) (first-both (λ f. In f as') (λ f. B f ⊎ (C f ⊎ D f)) a y (in-list as' a ha) first-y)
