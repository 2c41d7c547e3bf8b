use Rattle.std.proofs.Common.{ap, sym, ◌∙◌, ◌++◌, ◌∷◌, [], map}
use Rattle.std.specs.Prelude.{None, flat_map}
use Rattle.elab_plain.specs.vl_flat.specs.Connections.{override_faults}
use Rattle.elab_plain.specs.vl_flat.specs.Processes.{optional_faults}
use Rattle.elab_plain.specs.vl_flat.specs.Flat as f
use Rattle.elab_plain.specs.vl_flat.specs.Outcome as o
use Rattle.vl_design.specs.Stops.{earliest, limit_if}
use Rattle.vl_design.specs.Seen.{func_of, process_of}
use Rattle.elab_plain.specs.SeenItems.{seen_connection, seen_instances}
use Rattle.elab_constant.specs.Seen.{look}
use Rattle.vl_design.proofs.Earliest.{earliest-append}
use Rattle.vl_elab.specs.Growing.{totals_of}
use Rattle.vl_elab.proofs.Growth.{one-grows, keeps-nothing}
use Rattle.vl_elab.proofs.instances.begin.Goals as goal

pub returns-in_ok-making-in-None : goal.returns-in_ok-making-in-None
returns-in_ok-making-in-None c = λ g at-path.
    let old = c.args.making.now in
    let n = totals_of old.totals in
    let env = look c.args.above.now in
    let us = seen_instances c.args.instances.now in
    let at = us.place in
    let limits = o.instance_limits n (at ∷ []) in
    let long = limit_if (f.is_long_path g.path) at 11 in
    let rest = override_faults env us in
    let second = c.limit_if-best.ensures
    ∙ (ap (λ z. earliest z (limit_if c.is_long_path.result at 11)) c.instance_limit-best.ensures
    ∙ ap (λ z. earliest (earliest None limits) (limit_if z at 11)) (c.is_long_path.ensures ∙ ap f.is_long_path (sym at-path))) in
    let third = c.override_faults.ensures
    ∙ (ap (λ z. earliest c.limit_if-best.result (flat_map (λ q. optional_faults env q.value) (map seen_connection z))) c.as_slice.ensures.value
    ∙ ap (λ z. earliest z rest) second) in
    one-grows old _ (f.beginning env g us)
    (earliest-append None limits (long ++ rest) ∙ (earliest-append (earliest None limits) long rest ∙ (sym third ∙ c.in-None.is)))
    (c.in_ok-making-in-None.ensures at)
    (keeps-nothing old.signals.items)
    (keeps-nothing (map func_of old.funcs.items))
    (keeps-nothing (map process_of old.processes.items))
