use Rattle.std.proofs.Common.{rules, ◌≡◌, ◌+◌, ◌*◌, sym, ap, ◌∙◌, arith, refl}
use Rattle.vl_design.specs.Width as w
use Rattle.vl_design.specs.Syntax.{Cat, Rep}
use Rattle.vl_design.specs.Sound.{IsWidth}
use Rattle.vl_design.specs.Trees.{exps_of}
use Rattle.vl_bits.specs.Seen.{names_seen}
use Rattle.vl_bits.specs.Constants.{IsConstant}
use Rattle.vl_design.specs.declared.design.ExprNode.{the_lemmas}
use Rattle.vl_bits.proofs.Rows.{cat-is, rep-is, cat_parts, rep_parts}
use Rattle.vl_bits.proofs.values.+form.Goals as goal

pub form-total_width-requires : goal.form-total_width-requires
form-total_width-requires t c =
    (search (rules, the_lemmas), cat_parts (names_seen c.args.m.now) c.args.e.now c.in-Cat.parts c.as_slice.result.now c.in-Cat.is c.as_slice.ensures.value c.requires.constant c.requires.sound)

pub form-total_width-requires-in-Rep : goal.form-total_width-requires-in-Rep
form-total_width-requires-in-Rep t c =
    (search (rules, the_lemmas), rep_parts (names_seen c.args.m.now) c.args.e.now c.in-Rep.n c.in-Rep.parts c.as_slice-in-Rep.result.now c.in-Rep.is c.as_slice-in-Rep.ensures.value c.requires.constant c.requires.sound)

pub form-overflow_mul-from : goal.form-overflow_mul-from
form-overflow_mul-from t c =
    let k : IsConstant (names_seen c.args.m.now) (Rep c.in-Rep.n (exps_of c.as_slice-in-Rep.result.now)) = rw (rep-is c.args.e.now c.in-Rep.n c.in-Rep.parts c.as_slice-in-Rep.result.now c.in-Rep.is c.as_slice-in-Rep.ensures.value) at c.requires in
    let e : c.from-in-Rep.result * c.total_width-in-Rep.result ≡ c.in-Rep.n * w.total_width (names_seen c.args.m.now) (exps_of c.as_slice-in-Rep.result.now) =
    ap (λ x. x * c.total_width-in-Rep.result) c.from-in-Rep.ensures ∙ ap (λ x. c.in-Rep.n * x) c.total_width-in-Rep.ensures in
    omega (arith, e, k.sound.0.narrow)

pub form-returns-in-Cat-clause-same : goal.form-returns-in-Cat-clause-same
form-returns-in-Cat-clause-same t c =
    c.unsigned.ensures ∙ ap w.unsigned c.total_width.ensures
    ∙ sym (ap (w.form (names_seen c.args.m.now)) (cat-is c.args.e.now c.in-Cat.parts c.as_slice.result.now c.in-Cat.is c.as_slice.ensures.value))

pub form-returns-in-Cat-clause-width : goal.form-returns-in-Cat-clause-width
form-returns-in-Cat-clause-width t c =
    let k : IsConstant (names_seen c.args.m.now) (Cat (exps_of c.as_slice.result.now)) = rw (cat-is c.args.e.now c.in-Cat.parts c.as_slice.result.now c.in-Cat.is c.as_slice.ensures.value) at c.requires in
    let e = c.unsigned.ensures ∙ ap w.unsigned c.total_width.ensures in
    rw e k.sound.0

pub form-returns-in-Rep-clause-same : goal.form-returns-in-Rep-clause-same
form-returns-in-Rep-clause-same t c =
    c.unsigned-in-Rep.ensures ∙ ap (λ x. w.unsigned (x * c.total_width-in-Rep.result)) c.from-in-Rep.ensures ∙ ap (λ x. w.unsigned (c.in-Rep.n * x)) c.total_width-in-Rep.ensures
    ∙ sym (ap (w.form (names_seen c.args.m.now)) (rep-is c.args.e.now c.in-Rep.n c.in-Rep.parts c.as_slice-in-Rep.result.now c.in-Rep.is c.as_slice-in-Rep.ensures.value))

pub form-returns-in-Rep-clause-width : goal.form-returns-in-Rep-clause-width
form-returns-in-Rep-clause-width t c =
    let k : IsConstant (names_seen c.args.m.now) (Rep c.in-Rep.n (exps_of c.as_slice-in-Rep.result.now)) = rw (rep-is c.args.e.now c.in-Rep.n c.in-Rep.parts c.as_slice-in-Rep.result.now c.in-Rep.is c.as_slice-in-Rep.ensures.value) at c.requires in
    let e = c.unsigned-in-Rep.ensures ∙ ap (λ x. w.unsigned (x * c.total_width-in-Rep.result)) c.from-in-Rep.ensures ∙ ap (λ x. w.unsigned (c.in-Rep.n * x)) c.total_width-in-Rep.ensures in
    rw e k.sound.0
