use Rattle.std.proofs.Common.{ap, sym, ◌∙◌, subst}
use Rattle.std.specs.Prelude.{option_map}
use Rattle.elab_plain.specs.vl_flat.specs.Connections as k
use Rattle.elab_plain.specs.SeenItems.{seen_unit}
use Rattle.elab_plain.specs.Seen.{seen}
use Rattle.elab_constant.specs.Seen.{look}
use Rattle.vl_elab.specs.Standing.{seen_here}
use Rattle.vl_elab.specs.Growing.{Adds}
use Rattle.vl_elab.proofs.Joints.{an-output}
use Rattle.vl_elab.proofs.ports.add_output.Goals as goal

pub returns-in-Some : goal.returns-in-Some
returns-in-Some c = λ m joined.
    let above = seen_here c.args.ports.above in
    let env = look c.args.ports.names.now in
    let u = seen_unit c.args.ports.unit.now in
    let t = c.args.name.now in
    let output = sym (c.is_input.ensures.module m joined.roles) ∙ c.if-is_input.false in
    let given = sym (c.expression.ensures ∙ ap (λ j. k.expression_of (j t)) joined.connected) ∙ ap (option_map (λ e. seen e.now)) c.in-Some.is in
    subst (λ parts. Adds c.args.making.now c.add_connected.new.making parts c.add_connected.result) (sym (an-output above env m u t (seen c.in-Some.e.now) output given))
    (c.add_connected.ensures m joined)
