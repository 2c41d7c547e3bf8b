use Rattle.std.proofs.Common.{◌≡◌, ◌≤◌, ℕ, List, map, ap, ◌∙◌}
use Rattle.std.specs.Prelude.{fold}
use Rattle.elab_plain.specs.vl_flat.specs.Items as x
use Rattle.elab_plain.specs.vl_flat.specs.Environments as e
use Rattle.elab_plain.specs.SeenItems.{seen_declared, seen_item, seen_parameter, seen_type}
use Rattle.elab_constant.specs.Seen.{look}
use Rattle.elab_kinds.specs.declared.counts.Counts.{Counts}
use Rattle.elab_kinds.specs.Facts.{Facts, facts, facts_of}
use Rattle.elab_kinds.specs.Sized.{Tells, size_of}
use Rattle.elab_instance.specs.Given.{given_of, overrides_of}
use Rattle.elab_instance.specs.Known.{counts_of, kinds_by, known, with_item, with_parameter, with_signal}
use Rattle.elab_instance.proofs.Steps.{if-ok-map, item-parameters, item-same, item-signals}
use Rattle.elab_instance.proofs.environment.add_item.Goals as goal

pub returns-in_ok-add_parameters-in-Parameters-clause-table : goal.returns-in_ok-add_parameters-in-Parameters-clause-table
returns-in_ok-add_parameters-in-Parameters-clause-table c =
    let above = c.args.above.now in
    item-parameters (size_of c.args.sizes.now c.args.depth) (overrides_of above) (kinds_by (facts_of c.args.roles.now) above) (look c.args.names.now) (look c.add_parameters.new.names) (counts_of c.args.next)
    c.args.item.now c.in-Parameters.kind c.in-Parameters.parameters c.in-Parameters.is
    (c.in_ok-add_parameters-in-Parameters.ensures
    ∙ ap (λ ps. fold (with_parameter (overrides_of above) (seen_type c.in-Parameters.kind)) (look c.args.names.now) (map seen_parameter ps)) c.as_slice.ensures.value)

pub returns-in_ok-add_parameters-in-Parameters-clause-module : goal.returns-in_ok-add_parameters-in-Parameters-clause-module
returns-in_ok-add_parameters-in-Parameters-clause-module c =
    let above = c.args.above.now in
    λ told m path base s l h. item-parameters (told c.args.depth) (overrides_of above) (kinds_by (facts m) above) (look c.args.names.now) (look c.add_parameters.new.names) (counts_of c.args.next)
    c.args.item.now c.in-Parameters.kind c.in-Parameters.parameters c.in-Parameters.is
    (c.in_ok-add_parameters-in-Parameters.ensures
    ∙ ap (λ ps. fold (with_parameter (overrides_of above) (seen_type c.in-Parameters.kind)) (look c.args.names.now) (map seen_parameter ps)) c.as_slice.ensures.value)
    ∙ item-same (told c.args.depth) m above path base (known c.args.names.now c.args.next) (seen_item c.args.item.now)

pub returns-in-Signals-clause-table : goal.returns-in-Signals-clause-table
returns-in-Signals-clause-table c =
    let kind = c.in-Signals.kind in
    let old = known c.args.names.now c.args.next in
    let above = c.args.above.now in
    let kinds = kinds_by (facts_of c.args.roles.now) above in
    let sizes = size_of c.args.sizes.now c.args.depth in
    if-ok-map
    (λ (after : Counts). known c.add_signals.new.names after ≡ fold (with_signal kinds) old (map (seen_declared (seen_type kind)) c.as_slice-in-Signals.result.now))
    (λ (after : Counts). known c.add_signals.new.names after ≡ with_item sizes (overrides_of above) kinds old (seen_item c.args.item.now))
    c.add_signals.result
    (λ after f. item-signals sizes (overrides_of above) kinds old (known c.add_signals.new.names after) c.args.item.now kind c.in-Signals.declared c.in-Signals.is
    (f ∙ ap (λ ds. fold (with_signal kinds) old (map (seen_declared (seen_type kind)) ds)) c.as_slice-in-Signals.ensures.value))
    c.add_signals.ensures

pub returns-in-Signals-clause-module : goal.returns-in-Signals-clause-module
returns-in-Signals-clause-module c =
    let kind = c.in-Signals.kind in
    let old = known c.args.names.now c.args.next in
    let above = c.args.above.now in
    let ds = c.as_slice-in-Signals.result.now in
    if-ok-map
    (λ (after : Counts). known c.add_signals.new.names after ≡ fold (with_signal (kinds_by (facts_of c.args.roles.now) above)) old (map (seen_declared (seen_type kind)) ds))
    (λ (after : Counts). (told : ℕ → List ℕ → e.Counts) (m : x.Module) (path : List ℕ) (base : e.Counts) → Tells c.args.sizes.now told → c.args.depth ≤ 129 → facts_of c.args.roles.now ≡ facts m
    → known c.add_signals.new.names after ≡ e.with_item (told c.args.depth) (given_of m above path base) m old (seen_item c.args.item.now))
    c.add_signals.result
    (λ after f told m path base s l h. item-signals (told c.args.depth) (overrides_of above) (kinds_by (facts m) above) old (known c.add_signals.new.names after) c.args.item.now kind c.in-Signals.declared c.in-Signals.is
    (f ∙ ap (λ (z : List ℕ → Facts). fold (with_signal (kinds_by z above)) old (map (seen_declared (seen_type kind)) ds)) h
    ∙ ap (λ ds. fold (with_signal (kinds_by (facts m) above)) old (map (seen_declared (seen_type kind)) ds)) c.as_slice-in-Signals.ensures.value)
    ∙ item-same (told c.args.depth) m above path base old (seen_item c.args.item.now))
    c.add_signals.ensures
