use Rattle.std.proofs.Common.{ap, ◌∙◌}
use Rattle.vl_design.specs.Stops.{earliest, construct_if}
use Rattle.elab_plain.specs.vl_flat.specs.Ranges.{range_faults, range_in, is_wide}
use Rattle.elab_constant.specs.Seen.{look}
use Rattle.elab_plain.specs.SeenItems.{seen_type}
use Rattle.vl_design.proofs.Earliest.{chain}
use Rattle.elab_faults.proofs.types.type_faults.Goals as goal

pub returns : goal.returns
returns c =
    let n = look c.args.names.now in
    let k = seen_type c.args.kind.now in
    let ranged = c.written_faults-ranged.result in
    chain c.args.best ranged c.construct_if.result (range_faults n (range_in k)) (construct_if (is_wide n k) c.args.at 10)
    c.written_faults-ranged.ensures
    (c.construct_if.ensures ∙ ap (λ b. earliest ranged (construct_if b c.args.at 10)) c.is_past.ensures)
