-- What is called on a design that can be judged is called on what it takes for granted.
use Rattle.std.proofs.Common.{◌≡◌, ℕ, List, [], ◌∷◌, map, length, refl, sym, ap, ◌∙◌, subst, inl}
use Rattle.std.specs.Prelude.{All, None}
use Rattle.std.proofs.lemmas.List.Elements.{All-nil, All-cons, All-head, All-tail}
use Rattle.vl_check.specs.vl_design.specs.declared.design.Design.{Design}
use Rattle.vl_check.specs.vl_design.specs.declared.design.Func.{Func}
use Rattle.vl_check.specs.vl_design.specs.declared.stop.Stop.{Stop}
use Rattle.vl_check.specs.vl_design.specs.Placed as p
use Rattle.vl_check.specs.vl_design.specs.Plainly.{flat}
use Rattle.vl_check.specs.vl_design.specs.Rows.{range_width}
use Rattle.vl_check.specs.vl_design.specs.Seen.{placed, func_of}
use Rattle.vl_check.specs.vl_design.specs.Sound.{IsSound, IsWidth}
use Rattle.vl_check.specs.vl_design.specs.Trees.{flat_of}
use Rattle.vl_unroll.specs.vl_loops.specs.Fits.{CanUnroll}
use Rattle.vl_unroll.specs.vl_loops.specs.Placed.{unrolled_placed}
use Rattle.vl_unroll.specs.vl_loops.proofs.Placing.{flat_plain}
use Rattle.vl_unroll.specs.vl_loops.proofs.Sounding.{flat_sound}
use Rattle.vl_check.specs.vl_design.specs.First.{In, IsFirst}
use Rattle.vl_check.specs.Standing.{standing_faults}
use Rattle.vl_accept.specs.Fit.{IsFit}
use Rattle.vl_accept.proofs.Designs.{can-unroll}
use Rattle.vl_check.specs.Uses.{IsUseFault}
use Rattle.vl_check.specs.vl_design.proofs.Shared.{no-more}

pub unrolls : (d : p.Design) → IsFit d → IsFirst (IsUseFault d) None → CanUnroll (flat d)
unrolls d fit h = can-unroll d (no-more (standing_faults d) (λ f w. h f (inl w))) fit.sound fit.inputs

-- the unrolled design is sound
pub stays : (d : p.Design) (u : Design) → IsFit d → IsFirst (IsUseFault d) None → placed u ≡ unrolled_placed d → IsSound (flat_of u)
stays d u fit h e = subst IsSound (sym (ap flat e ∙ flat_plain d (unrolls d fit h))) (flat_sound (flat d) fit.sound)

-- the widths of locals, of the program's functions
pub locals-wide : (fs : List Func) → All (λ f. All (λ r. IsWidth (range_width r.left r.right)) f.locals) (map func_of fs) → All (λ f. All (λ r. IsWidth (range_width r.left r.right)) f.locals) fs
locals-wide [] h = All-nil (λ (f : Func). All (λ r. IsWidth (range_width r.left r.right)) f.locals)
locals-wide (f ∷ fs) h =
    let wide = λ (g : p.Func). All (λ r. IsWidth (range_width r.left r.right)) g.locals in
    All-cons (λ (g : Func). All (λ r. IsWidth (range_width r.left r.right)) g.locals) f fs (All-head wide (func_of f) (map func_of fs) h) (locals-wide fs (All-tail wide (func_of f) (map func_of fs) h))
