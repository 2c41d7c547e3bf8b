use Rattle.std.proofs.Common.{◌≡◌, refl, ap, sym, ◌∙◌, ◌∷◌, [], map, IfOk, subst}
use Rattle.std.specs.Prelude.{None}
use Rattle.elab_plain.specs.vl_flat.specs.Connections as k
use Rattle.elab_plain.specs.vl_flat.specs.ExpressionFaults.{faults}
use Rattle.elab_plain.specs.vl_flat.specs.Flat as f
use Rattle.vl_design.specs.Stops.{earliest}
use Rattle.vl_design.specs.Seen.{func_of, process_of}
use Rattle.elab_plain.specs.Seen.{seen}
use Rattle.elab_plain.specs.SeenItems.{seen_unit}
use Rattle.elab_constant.specs.Seen.{look}
use Rattle.vl_elab.specs.Standing.{seen_here}
use Rattle.vl_elab.proofs.Growth.{one-grows, one-stops, keeps-nothing}
use Rattle.vl_elab.proofs.ports.add_source.Goals as goal

pub returns-in-Some : goal.returns-in-Some
returns-in-Some c = λ m joined.
    let above = seen_here c.args.ports.above in
    let env = look c.args.ports.names.now in
    let u = seen_unit c.args.ports.unit.now in
    let t = c.args.name.now in
    let e = seen c.args.e.now in
    let judged = c.faults.ensures ∙ ap (λ s. earliest None (faults s e)) c.module_scope.ensures in
    one-stops c.in-Some.stop c.args.making.now.totals
    (f.connection (k.input_process above env (k.place_in u (k.port_connection m u t)) t e ∷ []) (k.input_faults above.env e))
    (sym judged ∙ c.in-Some.is)

pub returns-in_ok-push_made-in-None : goal.returns-in_ok-push_made-in-None
returns-in_ok-push_made-in-None c = λ m joined.
    let above = seen_here c.args.ports.above in
    let env = look c.args.ports.names.now in
    let u = seen_unit c.args.ports.unit.now in
    let t = c.args.name.now in
    let e = seen c.args.e.now in
    let old = c.args.making.now in
    let judged = c.faults.ensures ∙ ap (λ s. earliest None (faults s e)) c.module_scope.ensures in
    let at = c.place_in-at.ensures ∙ ap (k.place_in u) (c.connection.ensures ∙ ap (λ j. j t) joined.connected) in
    one-grows old _ (f.connection (k.input_process above env (k.place_in u (k.port_connection m u t)) t e ∷ []) (k.input_faults above.env e))
    (sym judged ∙ c.in-None.is)
    refl
    (keeps-nothing old.signals.items)
    (keeps-nothing (map func_of old.funcs.items))
    (c.in_ok-push_made-in-None.ensures (k.input_process above env (k.place_in u (k.port_connection m u t)) t e)
    (subst (λ q. IfOk c.input_process.result (λ a. process_of a ≡ k.input_process above env q t e)) at c.input_process.ensures))
