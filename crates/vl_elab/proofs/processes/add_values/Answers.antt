use Rattle.std.proofs.Common.{ap, ◌∙◌, ◌++◌, ◌∷◌, [], map}
use Rattle.std.specs.Option.{option_map_or}
use Rattle.elab_plain.specs.vl_flat.specs.Processes as p
use Rattle.vl_design.specs.Seen.{process_of}
use Rattle.elab_plain.specs.SeenItems.{seen_declared}
use Rattle.vl_elab.specs.Standing.{seen_here}
use Rattle.vl_elab.proofs.Steps.{each-more}
use Rattle.vl_elab.proofs.processes.add_values.Goals as goal

pub loop-d-preserved : goal.loop-d-preserved
loop-d-preserved c = λ type.
    let here = seen_here c.args.here in
    let d = c.d-item.result in
    c.in_ok-add_value.ensures type
    ∙ (ap (λ z. z ++ option_map_or (λ e. p.value_process here (seen_declared type d) e ∷ []) (seen_declared type d).value []) (c.loop-d.invariant type)
    ∙ each-more (λ b. option_map_or (λ e. p.value_process here b e ∷ []) b.value []) (seen_declared type) (map process_of c.args.all.now.items) c.args.ds.now c.loop-d.d-index d c.loop-d-test.true c.d-item.is)
