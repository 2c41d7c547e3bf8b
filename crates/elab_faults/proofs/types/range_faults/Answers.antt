use Rattle.std.proofs.Common.{ap, ◌∙◌, sym}
use Rattle.std.specs.Prelude.{option_map}
use Rattle.vl_design.specs.Stops.{earliest}
use Rattle.elab_plain.specs.vl_flat.specs.Ranges.{bound_faults, range_faults}
use Rattle.elab_plain.specs.Seen.{seen}
use Rattle.elab_constant.specs.Seen.{look}
use Rattle.elab_plain.specs.SeenItems.{seen_bounds}
use Rattle.vl_design.proofs.Earliest.{chain}
use Rattle.elab_faults.proofs.types.range_faults.Goals as goal

pub returns-in-Some : goal.returns-in-Some
returns-in-Some c =
    let n = look c.args.names.now in
    chain c.args.best c.bound_faults-left.result c.bound_faults.result (bound_faults n (seen c.in-Some.bounds.left)) (bound_faults n (seen c.in-Some.bounds.right)) c.bound_faults-left.ensures c.bound_faults.ensures
    ∙ sym (ap (λ z. earliest c.args.best (range_faults n (option_map seen_bounds z))) c.in-Some.is)
