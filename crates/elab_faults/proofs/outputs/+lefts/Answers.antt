use Rattle.std.proofs.Common.{map, refl, ap, ◌∙◌, sym}
use Rattle.elab_plain.specs.vl_flat.specs.Surface as x
use Rattle.vl_design.specs.Stops.{earliest}
use Rattle.elab_plain.specs.vl_flat.specs.ExpressionFaults.{name_faults}
use Rattle.elab_plain.specs.vl_flat.specs.Targets.{width_faults, target_faults, targets_faults}
use Rattle.elab_plain.specs.vl_flat.specs.Connections.{left_of, lefts_of}
use Rattle.elab_plain.specs.Seen.{seen, selects_before}
use Rattle.elab_plain.specs.Listed.{of_list}
use Rattle.elab_plain.proofs.Walks.{named-seen, joined-seen}
use Rattle.elab_constant.specs.Seen.{seen_scope}
use Rattle.vl_design.proofs.Earliest.{chain, step, finish}
use Rattle.elab_faults.proofs.outputs.+lefts.Goals as goal

pub faults_as_left-returns-in-Named : goal.faults_as_left-returns-in-Named
faults_as_left-returns-in-Named t c =
    let s = seen_scope c.args.scope.now in
    let name = c.in-Named.name in
    let ss = selects_before c.in-Named.selects.items x.NoSelects in
    let own = c.width_fault-own.result in
    let is = ap seen c.in-Named.is ∙ named-seen c.in-Named.at name c.in-Named.selects in
    chain c.args.best own c.name_faults.result (width_faults s (x.LeftName c.in-Named.at name ss)) (name_faults s c.in-Named.at (s.names name) ss)
    (c.width_fault-own.ensures ∙ ap (λ z. earliest c.args.best (width_faults s (left_of z))) is)
    (c.name_faults.ensures
    ∙ (ap (λ o. earliest own (name_faults s c.in-Named.at o (selects_before c.as_slice-in-Named.result.now x.NoSelects))) (c.meaning-known.ensures ∙ ap s.names c.as_slice.ensures)
    ∙ ap (λ z. earliest own (name_faults s c.in-Named.at (s.names name) (selects_before z x.NoSelects))) c.as_slice-in-Named.ensures.value))
    ∙ sym (ap (λ z. earliest c.args.best (target_faults s (left_of z))) is)

pub faults_as_left-returns-in-Joined : goal.faults_as_left-returns-in-Joined
faults_as_left-returns-in-Joined t c =
    let s = seen_scope c.args.scope.now in
    let es = of_list (map seen c.in-Joined.parts.items) in
    let own = c.width_fault-own-in-Joined.result in
    let is = ap seen c.in-Joined.is ∙ joined-seen c.in-Joined.field-0 c.in-Joined.parts in
    chain c.args.best own c.faults_as_lefts.result (width_faults s (x.LeftList c.in-Joined.field-0 (lefts_of es))) (targets_faults s (lefts_of es))
    (c.width_fault-own-in-Joined.ensures ∙ ap (λ z. earliest c.args.best (width_faults s (left_of z))) is)
    (c.faults_as_lefts.ensures ∙ ap (λ z. earliest own (targets_faults s (lefts_of (of_list (map seen z))))) c.as_slice-in-Joined.ensures.value)
    ∙ sym (ap (λ z. earliest c.args.best (target_faults s (left_of z))) is)

pub faults_as_lefts-loop-e-preserved : goal.faults_as_lefts-loop-e-preserved
faults_as_lefts-loop-e-preserved t c =
    let s = seen_scope c.args.scope.now in
    step (λ es. targets_faults s (lefts_of (of_list (map seen es)))) (λ e. target_faults s (left_of (seen e))) (λ y ys. refl) c.args.es.now c.loop-e.e-index c.e-item.result c.loop-e.all c.faults_as_left-all.result
    (earliest c.args.best (targets_faults s (lefts_of (of_list (map seen c.args.es.now))))) c.loop-e-test.true c.e-item.is c.faults_as_left-all.ensures c.loop-e.invariant

pub faults_as_lefts-returns : goal.faults_as_lefts-returns
faults_as_lefts-returns t c =
    let s = seen_scope c.args.scope.now in
    finish (λ es. targets_faults s (lefts_of (of_list (map seen es)))) refl c.args.es.now c.loop-e.e-index c.loop-e.all
    (earliest c.args.best (targets_faults s (lefts_of (of_list (map seen c.args.es.now))))) c.loop-e-test.false c.loop-e.invariant
