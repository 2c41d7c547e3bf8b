use Rattle.std.proofs.Common.{not, ap, ◌∙◌, sym}
use Rattle.vl_design.specs.Rows.{has_width}
use Rattle.vl_design.specs.Stops.{earliest, construct_if}
use Rattle.elab_plain.specs.vl_flat.specs.Targets.{left_width}
use Rattle.elab_plain.specs.vl_flat.specs.Connections.{left_of}
use Rattle.elab_plain.specs.Seen.{seen}
use Rattle.elab_constant.specs.Seen.{seen_scope}
use Rattle.elab_faults.proofs.Sides.{place-of-left}
use Rattle.elab_faults.proofs.outputs.width_fault.Goals as goal

pub returns : goal.returns
returns c =
    let s = seen_scope c.args.scope.now in
    let e = seen c.args.e.now in
    c.construct_if.ensures
    ∙ (ap (λ b. earliest c.args.best (construct_if (not b) c.node_place.result 10)) c.is_fitting.ensures
    ∙ ap (λ q. earliest c.args.best (construct_if (not (has_width (left_width s (left_of e)))) q 10)) (c.node_place.ensures ∙ sym (place-of-left e)))
