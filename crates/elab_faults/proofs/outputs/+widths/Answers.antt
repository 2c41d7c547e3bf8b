use Rattle.std.proofs.Common.{min, map, refl, arith, ap, ◌∙◌, sym}
use Rattle.elab_plain.specs.vl_flat.specs.Surface as x
use Rattle.elab_plain.specs.vl_flat.specs.Expressions.{named_form}
use Rattle.elab_plain.specs.vl_flat.specs.Targets.{left_width, lefts_width}
use Rattle.elab_plain.specs.vl_flat.specs.Connections.{left_of, lefts_of}
use Rattle.elab_plain.specs.Seen.{seen, selects_before}
use Rattle.elab_plain.specs.Listed.{of_list}
use Rattle.elab_plain.proofs.Walks.{named-seen, joined-seen}
use Rattle.elab_constant.specs.Seen.{seen_scope}
use Rattle.elab_faults.proofs.Sums.{width-step, width-finish}
use Rattle.elab_faults.proofs.outputs.+widths.Goals as goal

pub width_as_left-returns-in-Named : goal.width_as_left-returns-in-Named
width_as_left-returns-in-Named t c =
    let s = seen_scope c.args.scope.now in
    let name = c.in-Named.name in
    ap (λ f. f.width) c.named_form.ensures
    ∙ (ap (λ o. min 129 (named_form s o (selects_before c.as_slice-in-Named.result.now x.NoSelects)).width) (c.meaning-known.ensures ∙ ap s.names c.as_slice.ensures)
    ∙ (ap (λ ss. min 129 (named_form s (s.names name) (selects_before ss x.NoSelects)).width) c.as_slice-in-Named.ensures.value
    ∙ sym (ap (λ z. min 129 (left_width s (left_of z))) (ap seen c.in-Named.is ∙ named-seen c.in-Named.field-0 name c.in-Named.selects))))

pub width_as_left-returns-in-Joined : goal.width_as_left-returns-in-Joined
width_as_left-returns-in-Joined t c =
    let s = seen_scope c.args.scope.now in
    c.widths_as_lefts.ensures
    ∙ (ap (λ es. min 129 (lefts_width s (lefts_of (of_list (map seen es))))) c.as_slice-in-Joined.ensures.value
    ∙ sym (ap (λ z. min 129 (left_width s (left_of z))) (ap seen c.in-Joined.is ∙ joined-seen c.in-Joined.field-0 c.in-Joined.parts)))

pub widths_as_lefts-loop-e-preserved : goal.widths_as_lefts-loop-e-preserved
widths_as_lefts-loop-e-preserved t c =
    let s = seen_scope c.args.scope.now in
    record {
      narrow = omega (arith, c.min-total.ensures);
      rest = width-step (λ es. lefts_width s (lefts_of (of_list (map seen es)))) (λ e. left_width s (left_of (seen e))) (λ y ys. refl) c.args.es.now c.loop-e.e-index c.e-item.result c.loop-e.total c.width_as_left.result c.min-total.result
          (min 129 (lefts_width s (lefts_of (of_list (map seen c.args.es.now))))) c.loop-e-test.true c.e-item.is c.width_as_left.ensures c.min-total.ensures c.loop-e.invariant.rest;
    }

pub widths_as_lefts-returns : goal.widths_as_lefts-returns
widths_as_lefts-returns t c =
    let s = seen_scope c.args.scope.now in
    width-finish (λ es. lefts_width s (lefts_of (of_list (map seen es)))) refl c.args.es.now c.loop-e.e-index c.loop-e.total
    (min 129 (lefts_width s (lefts_of (of_list (map seen c.args.es.now))))) c.loop-e-test.false c.loop-e.invariant.narrow c.loop-e.invariant.rest
