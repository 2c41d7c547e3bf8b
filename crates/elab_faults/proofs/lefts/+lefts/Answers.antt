use Rattle.std.proofs.Common.{map, refl, ap, ◌∙◌, sym}
use Rattle.elab_plain.specs.vl_flat.specs.Surface as x
use Rattle.vl_design.specs.Stops.{earliest}
use Rattle.elab_plain.specs.vl_flat.specs.ExpressionFaults.{name_faults}
use Rattle.elab_plain.specs.vl_flat.specs.Targets.{width_faults, target_faults, targets_faults}
use Rattle.elab_plain.specs.Seen.{selects_before}
use Rattle.elab_plain.specs.SeenStatements.{seen_left, lefts_of}
use Rattle.elab_constant.specs.Seen.{seen_scope}
use Rattle.vl_design.proofs.Earliest.{chain, step, finish}
use Rattle.elab_faults.proofs.Sides.{list-seen}
use Rattle.elab_faults.proofs.lefts.+lefts.Goals as goal

pub target_faults-returns-in-Name : goal.target_faults-returns-in-Name
target_faults-returns-in-Name t c =
    let s = seen_scope c.args.scope.now in
    let name = c.in-Name.name in
    let l = x.LeftName c.in-Name.at name (selects_before c.in-Name.selects.items x.NoSelects) in
    let own = c.width_fault-own.result in
    chain c.args.best own c.name_faults.result (width_faults s l) (name_faults s c.in-Name.at (s.names name) (selects_before c.in-Name.selects.items x.NoSelects))
    (c.width_fault-own.ensures ∙ ap (λ z. earliest c.args.best (width_faults s (seen_left z))) c.in-Name.is)
    (c.name_faults.ensures
    ∙ (ap (λ o. earliest own (name_faults s c.in-Name.at o (selects_before c.as_slice-in-Name.result.now x.NoSelects))) (c.meaning-known.ensures ∙ ap s.names c.as_slice.ensures)
    ∙ ap (λ ss. earliest own (name_faults s c.in-Name.at (s.names name) (selects_before ss x.NoSelects))) c.as_slice-in-Name.ensures.value))
    ∙ sym (ap (λ z. earliest c.args.best (target_faults s (seen_left z))) c.in-Name.is)

pub target_faults-returns-in-List : goal.target_faults-returns-in-List
target_faults-returns-in-List t c =
    let s = seen_scope c.args.scope.now in
    let ls = lefts_of (map seen_left c.in-List.parts.items) in
    let l = x.LeftList c.in-List.field-0 ls in
    let own = c.width_fault-own.result in
    let is = ap seen_left c.in-List.is ∙ list-seen c.in-List.field-0 c.in-List.parts in
    chain c.args.best own c.targets_faults.result (width_faults s l) (targets_faults s ls)
    (c.width_fault-own.ensures ∙ ap (λ z. earliest c.args.best (width_faults s z)) is)
    (c.targets_faults.ensures ∙ ap (λ z. earliest own (targets_faults s (lefts_of (map seen_left z)))) c.as_slice-in-List.ensures.value)
    ∙ sym (ap (λ z. earliest c.args.best (target_faults s z)) is)

pub targets_faults-loop-l-preserved : goal.targets_faults-loop-l-preserved
targets_faults-loop-l-preserved t c =
    let s = seen_scope c.args.scope.now in
    step (λ ls. targets_faults s (lefts_of (map seen_left ls))) (λ l. target_faults s (seen_left l)) (λ y ys. refl) c.args.ls.now c.loop-l.l-index c.l-item.result c.loop-l.all c.target_faults-all.result
    (earliest c.args.best (targets_faults s (lefts_of (map seen_left c.args.ls.now)))) c.loop-l-test.true c.l-item.is c.target_faults-all.ensures c.loop-l.invariant

pub targets_faults-returns : goal.targets_faults-returns
targets_faults-returns t c =
    let s = seen_scope c.args.scope.now in
    finish (λ ls. targets_faults s (lefts_of (map seen_left ls))) refl c.args.ls.now c.loop-l.l-index c.loop-l.all
    (earliest c.args.best (targets_faults s (lefts_of (map seen_left c.args.ls.now)))) c.loop-l-test.false c.loop-l.invariant
