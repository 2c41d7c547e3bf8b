use Rattle.std.proofs.Common.{ap, sym, ◌∙◌, ◌++◌, [], map, fold}
use Rattle.std.specs.Prelude.{None, flat_map}
use Rattle.elab_plain.specs.vl_flat.specs.Processes as p
use Rattle.elab_plain.specs.vl_flat.specs.Outcome as o
use Rattle.vl_design.specs.Stops.{earliest}
use Rattle.vl_design.specs.Seen.{func_of}
use Rattle.elab_plain.specs.SeenItems.{seen_type, seen_declared}
use Rattle.elab_constant.specs.Seen.{look}
use Rattle.vl_design.proofs.Earliest.{earliest-append}
use Rattle.vl_elab.specs.Standing.{seen_here}
use Rattle.vl_elab.specs.Growing.{totals_of}
use Rattle.vl_elab.specs.Parts.{part}
use Rattle.vl_elab.proofs.Growth.{one-grows, one-stops, keeps-nothing}
use Rattle.vl_elab.proofs.items.add_declared.Goals as goal

pub returns : goal.returns
returns c =
    let type = seen_type c.args.kind.now in
    let ds = map (seen_declared type) c.args.ds.now in
    let here = seen_here c.args.here in
    let n = totals_of c.args.making.now.totals in
    let found = p.signals here c.args.next ds in
    let faults = flat_map (p.declared_faults (look c.args.here.names.now)) ds in
    let seen = c.as_slice.ensures.value ∙ c.in_ok-signals.ensures type in
    let best = c.in_ok-best.ensures.best ∙ ap (λ z. earliest None (o.signals_limits n z)) seen in
    let judged = earliest-append None (o.signals_limits n found) faults ∙ (sym (ap (λ z. earliest z faults) best) ∙ sym c.all_declared_faults.ensures) in
    one-grows c.args.making.now _ (part found [] (p.values here ds) faults)
    (judged ∙ c.in-None.is)
    (c.in_ok-best.ensures.totals ∙ ap (fold o.with_signal n) seen)
    (c.in_ok-append-in-None.ensures.items ∙ ap (λ z. c.args.making.now.signals.items ++ z) (c.in_ok-signals.ensures type))
    (keeps-nothing (map func_of c.args.making.now.funcs.items))
    (c.in_ok-add_values-in-None.ensures type)

pub returns-in-Some : goal.returns-in-Some
returns-in-Some c =
    let type = seen_type c.args.kind.now in
    let ds = map (seen_declared type) c.args.ds.now in
    let here = seen_here c.args.here in
    let n = totals_of c.args.making.now.totals in
    let found = p.signals here c.args.next ds in
    let faults = flat_map (p.declared_faults (look c.args.here.names.now)) ds in
    let seen = c.as_slice.ensures.value ∙ c.in_ok-signals.ensures type in
    let best = c.in_ok-best.ensures.best ∙ ap (λ z. earliest None (o.signals_limits n z)) seen in
    let judged = earliest-append None (o.signals_limits n found) faults ∙ (sym (ap (λ z. earliest z faults) best) ∙ sym c.all_declared_faults.ensures) in
    one-stops c.in-Some.stop c.args.making.now.totals (part found [] (p.values here ds) faults) (judged ∙ c.in-Some.is)
