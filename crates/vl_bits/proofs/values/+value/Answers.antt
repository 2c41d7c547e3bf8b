use Rattle.std.proofs.Common.{rules, ◌≡◌, ◌≤◌, ◌+◌, ◌-◌, ◌*◌, sym, ap, ◌∙◌, arith, refl, take, drop, length}
use Rattle.vl_base.specs.Selects as s
use Rattle.vl_design.specs.declared.design.ExprNode.{the_lemmas}
use Rattle.vl_design.specs.Nodes as nodes
use Rattle.vl_design.specs.Width as w
use Rattle.vl_design.specs.Value as v
use Rattle.vl_design.specs.Syntax.{Cat, Rep}
use Rattle.vl_design.specs.Trees.{exp_of, exps_of}
use Rattle.vl_paths.specs.Bits as b
use Rattle.vl_bits.specs.Seen.{names_seen}
use Rattle.vl_bits.specs.Constants.{IsReadable, AreParts}
use Rattle.vl_bits.proofs.WidthsOfIndex.{second_false}
use Rattle.vl_bits.proofs.Rows.{cat-is, rep-is, cat_parts, rep_parts, exps-more, appended-twice}
use Rattle.vl_bits.proofs.values.+value.Goals as goal

pub side_by_side-loop-e-preserved : goal.side_by_side-loop-e-preserved
side_by_side-loop-e-preserved t c =
    let names = names_seen c.args.m.now in
    let xs = take (length c.args.es.now - 1) (drop 1 c.args.es.now) in
    let i = c.loop-e.e-index in
    let x = c.e-item.result in
    let all = c.loop-e.all in
    let more = exps_of (drop (i + 1) xs) in
    let e = exps-more xs i x c.loop-e-test.true c.e-item.is in
    let width : c.value.result.width ≡ (w.form names (exp_of x)).width = c.value.ensures.width ∙ ap (λ f. f.width) c.form-in-loop-e.ensures.same in
    let value : c.value.result.value ≡ v.value (b.closed names) b.nothing (exp_of x) (w.form names (exp_of x)) = c.value.ensures.value ∙ ap (v.value (b.closed names) b.nothing (exp_of x)) c.form-in-loop-e.ensures.same in
    let wide = rw e at c.loop-e.invariant.width in
    record {
      constant = second_false (nodes.has b.varies (exp_of x)) (nodes.some_have b.varies more) (rw e at c.loop-e.invariant.constant);
      sound = (rw e at c.loop-e.invariant.sound).1;
      width = omega (arith, c.beside-all.ensures.width, width, wide);
      value =
          ap (λ z. s.appended z (w.total_width names more) (v.side_by_side (b.closed names) b.nothing more)) (c.beside-all.ensures.value ∙ ap (λ z. s.appended all.value z c.value.result.value) width ∙ ap (s.appended all.value (w.form names (exp_of x)).width) value)
          ∙ appended-twice all.value (w.form names (exp_of x)).width (v.value (b.closed names) b.nothing (exp_of x) (w.form names (exp_of x))) (w.total_width names more) (v.side_by_side (b.closed names) b.nothing more)
          ∙ (rw e at c.loop-e.invariant.value);
    }

pub value-side_by_side-requires : goal.value-side_by_side-requires
value-side_by_side-requires t c =
    (search (rules, the_lemmas), cat_parts (names_seen c.args.m.now) c.args.e.now c.in-Cat.parts c.as_slice.result.now c.in-Cat.is c.as_slice.ensures.value c.requires.constant c.requires.sound)

pub value-padded-requires-in-Cat-clause-fits : goal.value-padded-requires-in-Cat-clause-fits
value-padded-requires-in-Cat-clause-fits t c =
    let k : IsReadable (names_seen c.args.m.now) (Cat (exps_of c.as_slice.result.now)) c.args.c = rw (cat-is c.args.e.now c.in-Cat.parts c.as_slice.result.now c.in-Cat.is c.as_slice.ensures.value) at c.requires in
    omega (arith, k.wide, c.side_by_side.ensures.width)

pub value-side_by_side-requires-in-Rep : goal.value-side_by_side-requires-in-Rep
value-side_by_side-requires-in-Rep t c =
    (search (rules, the_lemmas), rep_parts (names_seen c.args.m.now) c.args.e.now c.in-Rep.n c.in-Rep.parts c.as_slice-in-Rep.result.now c.in-Rep.is c.as_slice-in-Rep.ensures.value c.requires.constant c.requires.sound)

pub value-repeated-requires-clause-narrow : goal.value-repeated-requires-clause-narrow
value-repeated-requires-clause-narrow t c =
    let k : IsReadable (names_seen c.args.m.now) (Rep c.in-Rep.n (exps_of c.as_slice-in-Rep.result.now)) c.args.c = rw (rep-is c.args.e.now c.in-Rep.n c.in-Rep.parts c.as_slice-in-Rep.result.now c.in-Rep.is c.as_slice-in-Rep.ensures.value) at c.requires in
    let e = ap (λ z. c.in-Rep.n * z) c.side_by_side-in-Rep.ensures.width in
    omega (arith, e, k.sound.0.narrow)

pub value-padded-requires-in-Rep-clause-fits : goal.value-padded-requires-in-Rep-clause-fits
value-padded-requires-in-Rep-clause-fits t c =
    let k : IsReadable (names_seen c.args.m.now) (Rep c.in-Rep.n (exps_of c.as_slice-in-Rep.result.now)) c.args.c = rw (rep-is c.args.e.now c.in-Rep.n c.in-Rep.parts c.as_slice-in-Rep.result.now c.in-Rep.is c.as_slice-in-Rep.ensures.value) at c.requires in
    let e = c.repeated.ensures.width ∙ ap (λ z. c.in-Rep.n * z) c.side_by_side-in-Rep.ensures.width in
    omega (arith, e, k.wide)

pub value-returns-in-Cat-clause-value : goal.value-returns-in-Cat-clause-value
value-returns-in-Cat-clause-value t c =
    c.padded-in-Cat.ensures.value ∙ c.side_by_side.ensures.value
    ∙ sym (ap (λ z. v.value (b.closed (names_seen c.args.m.now)) b.nothing z c.args.c) (cat-is c.args.e.now c.in-Cat.parts c.as_slice.result.now c.in-Cat.is c.as_slice.ensures.value))

pub value-returns-in-Rep-clause-value : goal.value-returns-in-Rep-clause-value
value-returns-in-Rep-clause-value t c =
    c.padded-in-Rep.ensures.value ∙ c.repeated.ensures.value
    ∙ ap (λ z. v.repeated c.in-Rep.n z c.side_by_side-in-Rep.result.value) c.side_by_side-in-Rep.ensures.width
    ∙ ap (v.repeated c.in-Rep.n (w.total_width (names_seen c.args.m.now) (exps_of c.as_slice-in-Rep.result.now))) c.side_by_side-in-Rep.ensures.value
    ∙ sym (ap (λ z. v.value (b.closed (names_seen c.args.m.now)) b.nothing z c.args.c) (rep-is c.args.e.now c.in-Rep.n c.in-Rep.parts c.as_slice-in-Rep.result.now c.in-Rep.is c.as_slice-in-Rep.ensures.value))
