use Rattle.std.proofs.Common.{◌∙◌, ap}
use Rattle.vl_design.specs.declared.design.Form.{Form}
use Rattle.vl_design.specs.Trees.{exp_of, flat_of}
use Rattle.vl_design.specs.Width.{Names, signal_form}
use Rattle.cell_emit.specs.cell_form.specs.Views.{list_of}
use Rattle.cell_emit.proofs.Newest.{ok-gives}
use Rattle.cell_emit.specs.Envs.{env_of}
use Rattle.cell_calls.proofs.Calling.{traps-read}
use Rattle.cell_calls.proofs.file.read_to.Goals as goal

pub returns-clause-traps : goal.returns-clause-traps
returns-clause-traps c =
    let slot = c.in_ok-slot in
    let form = c.signal_form-width.ensures.value ∙ ap (λ (n : Names). signal_form n.rows c.args.variable) c.room_of.ensures.names in
    ok-gives c.given_file.result _ _
    (λ t e. traps-read (flat_of c.args.site.design.now) (env_of c.args.site.at.now) (list_of c.args.cells.now) (list_of c.descriptor.new.cells) c.args.variable c.signal_form-width.result.width c.register.result slot.slot (exp_of c.args.fd.now) t
    slot.ensures.gives (ap (λ (z : Form). z.width) form) c.register.ensures e)
    c.given_file.ensures
