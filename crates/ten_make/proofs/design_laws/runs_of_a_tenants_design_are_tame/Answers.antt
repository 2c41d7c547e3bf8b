use Rattle.ten_core.specs.ten_form.specs.Nets.{nets_of}
use Rattle.ten_make.proofs.Runs.{tame}
use Rattle.ten_make.proofs.design_laws.runs_of_a_tenants_design_are_tame.Goals as goal

pub returns : goal.returns
returns c o order is bytes fine =
    tame o order is bytes (λ n i comes late alive. c.each_stage_is_tidy.ensures o order n i is.checked is.ordered fine is.nets is.memories comes late alive)
    (c.an_update_begins_on_committed_values.ensures o (nets_of o.flat o.files order))
