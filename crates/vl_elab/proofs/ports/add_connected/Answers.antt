use Rattle.std.proofs.Common.{◌≡◌, refl, ap, sym, ◌∙◌, ◌∷◌, [], map, IfOk, subst}
use Rattle.std.specs.Prelude.{None}
use Rattle.elab_plain.specs.vl_flat.specs.Connections as k
use Rattle.elab_plain.specs.vl_flat.specs.Flat as f
use Rattle.vl_design.specs.Stops.{earliest}
use Rattle.vl_design.specs.Seen.{func_of, process_of}
use Rattle.elab_plain.specs.Seen.{seen}
use Rattle.elab_plain.specs.SeenItems.{seen_unit}
use Rattle.elab_constant.specs.Seen.{look}
use Rattle.vl_elab.specs.Standing.{seen_here}
use Rattle.vl_elab.proofs.Growth.{one-grows, keeps-nothing}
use Rattle.vl_elab.proofs.ports.add_connected.Goals as goal

pub returns-in_ok-push_made-in-None : goal.returns-in_ok-push_made-in-None
returns-in_ok-push_made-in-None c = λ m joined.
    let above = seen_here c.args.ports.above in
    let env = look c.args.ports.names.now in
    let u = seen_unit c.args.ports.unit.now in
    let t = c.args.name.now in
    let e = seen c.args.e.now in
    let old = c.args.making.now in
    let place = k.place_in u (k.port_connection m u t) in
    let at = c.place_in-at.ensures ∙ ap (k.place_in u) (c.connection.ensures ∙ ap (λ j. j t) joined.connected) in
    let judged = c.output_faults.ensures ∙ ap (λ q. earliest None (k.output_faults above.env q e)) at in
    one-grows old _ (f.connection (k.output_process above env place t e ∷ []) (k.output_faults above.env place e))
    (sym judged ∙ c.in-None.is)
    refl
    (keeps-nothing old.signals.items)
    (keeps-nothing (map func_of old.funcs.items))
    (c.in_ok-push_made-in-None.ensures (k.output_process above env place t e)
    (subst (λ q. IfOk c.output_process.result (λ a. process_of a ≡ k.output_process above env q t e)) at c.output_process.ensures))
