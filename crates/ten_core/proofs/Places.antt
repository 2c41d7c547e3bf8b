-- Where a tenant's run is at a boundary.
use Rattle.std.proofs.Common.{◌≡◌, ℕ, Bool, true, false, List, refl, sym, ap, ◌∙◌, subst}
use Rattle.std.specs.Prelude.{◌==◌, slice_get}
use Rattle.std.proofs.lemmas.Bool.{eqb-true, eq-eqb}
use Rattle.vl_design.specs.Alone.{Origin}
use Rattle.vl_design.specs.Syntax.{Flat}
use Rattle.ten_form.specs.sub_nodes.specs.Code.{table_of}
use Rattle.ten_form.specs.sub_nodes.specs.Cycles.{Stage, rises}
use Rattle.ten_form.specs.sub_nodes.proofs.Rising.{rises_once, rise_rises}
use Rattle.ten_core.specs.Runs.{IsAt}
use Rattle.ten_core.specs.Tenants.{TenantData}
use Rattle.vl_design.specs.vl_base.proofs.Booleans.{same_by_both as both}

-- the node that rises is the first one of a rise's wave
rise-is : (d : Flat) (n r : ℕ) → r ≡ (table_of d).rise.first → (n == r) ≡ rises (slice_get (table_of d).nodes n)
rise-is d n r e =
    both (n == r) (rises (slice_get (table_of d).nodes n))
    (λ h. subst (λ k. rises (slice_get (table_of d).nodes k) ≡ true) (sym (eqb-true n r h ∙ e)) (rise_rises d))
    (λ h. eq-eqb n r (rises_once d n h ∙ sym e))

module _ (o : Origin) (order : List ℕ) (t : TenantData) (c : ℕ) (i : Stage) (at : IsAt o order t c i) where
  pub boundary-is : (t.next == t.image.rise) ≡ rises (slice_get (table_of o.flat).nodes i.node)
  boundary-is = ap (λ n. n == t.image.rise) at.next ∙ rise-is o.flat i.node t.image.rise at.image.rise
