use Rattle.std.proofs.Common.{ap, sym, ◌∙◌}
use Rattle.std.specs.Prelude.{option_map}
use Rattle.elab_plain.specs.vl_flat.specs.ExpressionFaults.{faults}
use Rattle.elab_plain.specs.vl_flat.specs.Processes as p
use Rattle.vl_design.specs.Stops.{earliest}
use Rattle.elab_plain.specs.Seen.{seen}
use Rattle.elab_constant.specs.Seen.{look}
use Rattle.vl_elab.proofs.faults.optional_faults.Goals as goal

pub returns-in-Some : goal.returns-in-Some
returns-in-Some c =
    c.faults.ensures
    ∙ (ap (λ s. earliest c.args.best (faults s (seen c.in-Some.e))) c.module_scope.ensures
    ∙ sym (ap (λ o. earliest c.args.best (p.optional_faults (look c.args.names.now) (option_map seen o))) c.in-Some.is))
