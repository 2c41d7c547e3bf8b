use Rattle.std.proofs.Common.{min, map, refl, arith, ap, ◌∙◌, sym}
use Rattle.elab_plain.specs.vl_flat.specs.Surface as x
use Rattle.elab_plain.specs.vl_flat.specs.Expressions.{named_form}
use Rattle.elab_plain.specs.vl_flat.specs.Targets.{left_width, lefts_width}
use Rattle.elab_plain.specs.Seen.{selects_before}
use Rattle.elab_plain.specs.SeenStatements.{seen_left, lefts_of}
use Rattle.elab_constant.specs.Seen.{seen_scope}
use Rattle.elab_faults.proofs.Sums.{width-step, width-finish}
use Rattle.elab_faults.proofs.Sides.{list-seen}
use Rattle.elab_faults.proofs.lefts.+widths.Goals as goal

pub left_width-returns-in-Name : goal.left_width-returns-in-Name
left_width-returns-in-Name t c =
    let s = seen_scope c.args.scope.now in
    let name = c.in-Name.name in
    ap (λ f. f.width) c.named_form.ensures
    ∙ (ap (λ o. min 129 (named_form s o (selects_before c.as_slice-in-Name.result.now x.NoSelects)).width) (c.meaning-known.ensures ∙ ap s.names c.as_slice.ensures)
    ∙ (ap (λ ss. min 129 (named_form s (s.names name) (selects_before ss x.NoSelects)).width) c.as_slice-in-Name.ensures.value
    ∙ sym (ap (λ z. min 129 (left_width s (seen_left z))) c.in-Name.is)))

pub left_width-returns-in-List : goal.left_width-returns-in-List
left_width-returns-in-List t c =
    let s = seen_scope c.args.scope.now in
    c.lefts_width.ensures
    ∙ (ap (λ ls. min 129 (lefts_width s (lefts_of (map seen_left ls)))) c.as_slice-in-List.ensures.value
    ∙ sym (ap (λ z. min 129 (left_width s z)) (ap seen_left c.in-List.is ∙ list-seen c.in-List.field-0 c.in-List.parts)))

pub lefts_width-loop-l-preserved : goal.lefts_width-loop-l-preserved
lefts_width-loop-l-preserved t c =
    let s = seen_scope c.args.scope.now in
    record {
      narrow = omega (arith, c.min-total.ensures);
      rest = width-step (λ ls. lefts_width s (lefts_of (map seen_left ls))) (λ l. left_width s (seen_left l)) (λ y ys. refl) c.args.ls.now c.loop-l.l-index c.l-item.result c.loop-l.total c.left_width.result c.min-total.result
          (min 129 (lefts_width s (lefts_of (map seen_left c.args.ls.now)))) c.loop-l-test.true c.l-item.is c.left_width.ensures c.min-total.ensures c.loop-l.invariant.rest;
    }

pub lefts_width-returns : goal.lefts_width-returns
lefts_width-returns t c =
    let s = seen_scope c.args.scope.now in
    width-finish (λ ls. lefts_width s (lefts_of (map seen_left ls))) refl c.args.ls.now c.loop-l.l-index c.loop-l.total
    (min 129 (lefts_width s (lefts_of (map seen_left c.args.ls.now)))) c.loop-l-test.false c.loop-l.invariant.narrow c.loop-l.invariant.rest
