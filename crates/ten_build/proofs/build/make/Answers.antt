use Rattle.std.proofs.Common.{List, ℕ}
use Rattle.vl_loops.specs.vl_design.specs.Trees.{flat_of}
use Rattle.vl_front.specs.Sources.{IsAcceptedOf}
use Rattle.ten_make.specs.ten_core.specs.declared.image.Image.{Image}
use Rattle.ten_make.specs.ten_core.specs.Tenants.{IsImage}
use Rattle.ten_make.specs.Within.{IsWithinCost}
use Rattle.ten_build.specs.Builds.{IsImageOf}
use Rattle.ten_build.proofs.Building.{both, tenant, is-image}
use Rattle.ten_build.proofs.build.make.Goals as goal

pub image-requires : goal.image-requires
image-requires c =
    let r = c.requires in
    tenant r.0 c.args.accepted r.1 c.an_elaborated_design_is_fit_to_be_judged.ensures c.functions_of_an_elaborated_design_keep_to_their_own.ensures
    c.processes_of_an_elaborated_design_write_what_is_theirs.ensures c.an_accepted_design_is_a_tenants.ensures
    (rw c.as_slice.ensures at c.if-as_slice-gt-MOST_SIGNALS.false)

pub returns : goal.returns
returns c =
    let a = c.args.accepted in
    both c.image.result (λ (x : Image). IsImage (flat_of a.design) a.order.items x) (λ (x : Image). IsWithinCost (flat_of a.design) x)
    (λ (x : Image). (text : List ℕ) → IsAcceptedOf text a → IsImageOf text x)
    (λ x made within text is.
    is-image text a is c.an_elaborated_design_is_fit_to_be_judged.ensures c.runs_the_same.ensures c.costs_the_same.ensures c.signals_of_an_elaborated_design_are_limited.ensures
    c.rows_of_a_limited_design_can_be_written.ensures c.processes_of_an_elaborated_design_ask_behind_calls.ensures
    c.unrolled_designs_ask_behind_calls.ensures x made
    (tenant text a is c.an_elaborated_design_is_fit_to_be_judged.ensures c.functions_of_an_elaborated_design_keep_to_their_own.ensures
    c.processes_of_an_elaborated_design_write_what_is_theirs.ensures c.an_accepted_design_is_a_tenants.ensures
    (rw c.as_slice.ensures at c.if-as_slice-gt-MOST_SIGNALS.false))
    within)
    c.image.ensures.image c.image.ensures.within
