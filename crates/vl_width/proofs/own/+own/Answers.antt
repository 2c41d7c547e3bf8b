use Rattle.std.proofs.Common.{◌≡◌, ◌+◌, ◌*◌, ◌∙◌, ap, sym, subst, map, arith}
use Rattle.vl_design.specs.Sized.{sized_of}
use Rattle.vl_design.specs.Trees.{exp_of, exps_of}
use Rattle.vl_design.specs.Sound.{IsSoundExp}
use Rattle.vl_design.specs.Width.{total_width, unsigned, input_widths}
use Rattle.vl_width.specs.Nodes.{nodes, all_nodes}
use Rattle.vl_width.specs.Read.{own_of, at_input, at_inputs, widths_together}
use Rattle.vl_width.specs.Room.{names_of}
use Rattle.vl_width.proofs.Owning.{exp-Cat, exp-Rep, exp-Call, own-Cat, own-Rep, own-Call, item-sound, item-nodes, call-there, takes-widths, widths-own, total-narrow, many-count, arguments-step}
use Rattle.std.specs.Prelude.{slice_get}
use Rattle.vl_width.proofs.own.+own.Goals as goal

pub own-parts-requires : goal.own-parts-requires
own-parts-requires t c =
    let e = exp-Cat c.args.e.now c.in-Cat.es c.in-Cat.is in
    let s = subst (IsSoundExp (names_of c.args.room.now)) e c.requires.sound in
    let m : 2 * nodes (exp_of c.args.e.now) ≡ t = c.decreases in
    let n : nodes (exp_of c.args.e.now) ≡ 1 + all_nodes (exps_of c.in-Cat.es.items) = ap nodes e in
    rw c.as_slice.ensures.value (omega arith, (c.requires.inputs, s.1))

pub parts-own-requires : goal.parts-own-requires
parts-own-requires t c =
    let m : 2 * all_nodes (exps_of c.args.es.now) + 1 ≡ t = c.decreases in
    let n = item-nodes c.args.es.now c.loop-e.e-index c.e-item.result c.loop-e-test.true c.e-item.is in
    (omega arith, (c.requires.inputs, item-sound (names_of c.args.room.now) c.args.es.now c.loop-e.e-index c.e-item.result c.requires.sound c.loop-e-test.true c.e-item.is))

pub own-parts-requires-in-Rep : goal.own-parts-requires-in-Rep
own-parts-requires-in-Rep t c =
    let e = exp-Rep c.args.e.now c.in-Rep.count c.in-Rep.es c.in-Rep.is in
    let s = subst (IsSoundExp (names_of c.args.room.now)) e c.requires.sound in
    let m : 2 * nodes (exp_of c.args.e.now) ≡ t = c.decreases in
    let n : nodes (exp_of c.args.e.now) ≡ 1 + all_nodes (exps_of c.in-Rep.es.items) = ap nodes e in
    rw c.as_slice-in-Rep.ensures.value (omega arith, (c.requires.inputs, s.1))

pub own-total_width-width-requires : goal.own-total_width-width-requires
own-total_width-width-requires t c =
    let s = subst (IsSoundExp (names_of c.args.room.now)) (exp-Cat c.args.e.now c.in-Cat.es c.in-Cat.is) c.requires.sound in
    let w = ap widths_together (ap (map sized_of) c.as_slice-in-Cat.ensures.value ∙ (c.in_ok-all-in-Cat.ensures ∙ ap (map (own_of (names_of c.args.room.now))) c.as_slice.ensures.value)) ∙ widths-own (names_of c.args.room.now) c.in-Cat.es.items in
    let n = s.0.narrow in
    rw w n

pub own-at-requires-in-Cat : goal.own-at-requires-in-Cat
own-at-requires-in-Cat t c =
    let s = subst (IsSoundExp (names_of c.args.room.now)) (exp-Cat c.args.e.now c.in-Cat.es c.in-Cat.is) c.requires.sound in
    let w = ap widths_together (ap (map sized_of) c.as_slice-in-Cat.ensures.value ∙ (c.in_ok-all-in-Cat.ensures ∙ ap (map (own_of (names_of c.args.room.now))) c.as_slice.ensures.value)) ∙ widths-own (names_of c.args.room.now) c.in-Cat.es.items in
    let n = s.0.narrow in
    let e : c.unsigned-in-Cat.result.width ≡ total_width (names_of c.args.room.now) (exps_of c.in-Cat.es.items) = ap (λ f. f.width) c.unsigned-in-Cat.ensures ∙ (c.total_width-width.ensures ∙ w) in
    omega arith

pub own-total_width-requires : goal.own-total_width-requires
own-total_width-requires t c =
    let s = subst (IsSoundExp (names_of c.args.room.now)) (exp-Rep c.args.e.now c.in-Rep.count c.in-Rep.es c.in-Rep.is) c.requires.sound in
    let w = ap widths_together (ap (map sized_of) c.as_slice-in-Rep-2.ensures.value ∙ (c.in_ok-all-in-Rep.ensures ∙ ap (map (own_of (names_of c.args.room.now))) c.as_slice-in-Rep.ensures.value)) ∙ widths-own (names_of c.args.room.now) c.in-Rep.es.items in
    let n = total-narrow c.in-Rep.count (total_width (names_of c.args.room.now) (exps_of c.in-Rep.es.items)) s.0 in
    rw w n

pub own-overflow_mul-width : goal.own-overflow_mul-width
own-overflow_mul-width t c =
    let s = subst (IsSoundExp (names_of c.args.room.now)) (exp-Rep c.args.e.now c.in-Rep.count c.in-Rep.es c.in-Rep.is) c.requires.sound in
    let w = ap widths_together (ap (map sized_of) c.as_slice-in-Rep-2.ensures.value ∙ (c.in_ok-all-in-Rep.ensures ∙ ap (map (own_of (names_of c.args.room.now))) c.as_slice-in-Rep.ensures.value)) ∙ widths-own (names_of c.args.room.now) c.in-Rep.es.items in
    let n = s.0.narrow in
    let e = ap (λ n. n * c.total_width.result) c.from-in-Rep.ensures ∙ ap (λ t. c.in-Rep.count * t) (c.total_width.ensures ∙ w) in
    rw e (omega arith)

pub own-at-requires-in-Rep : goal.own-at-requires-in-Rep
own-at-requires-in-Rep t c =
    let s = subst (IsSoundExp (names_of c.args.room.now)) (exp-Rep c.args.e.now c.in-Rep.count c.in-Rep.es c.in-Rep.is) c.requires.sound in
    let w = ap widths_together (ap (map sized_of) c.as_slice-in-Rep-2.ensures.value ∙ (c.in_ok-all-in-Rep.ensures ∙ ap (map (own_of (names_of c.args.room.now))) c.as_slice-in-Rep.ensures.value)) ∙ widths-own (names_of c.args.room.now) c.in-Rep.es.items in
    let n = s.0.narrow in
    let e = ap (λ n. n * c.total_width.result) c.from-in-Rep.ensures ∙ ap (λ t. c.in-Rep.count * t) (c.total_width.ensures ∙ w) in
    let f = ap (λ f. f.width) c.unsigned-in-Rep.ensures ∙ e in
    rw f (omega arith)

pub own-arguments-requires : goal.own-arguments-requires
own-arguments-requires t c =
    let names = names_of c.args.room.now in
    let k = c.in-Call.number in
    let e = exp-Call c.args.e.now k c.in-Call.es c.in-Call.is in
    let s = subst (IsSoundExp names) e c.requires.sound in
    let many = sym (many-count c.in-Call.es.items) ∙ takes-widths names (slice_get names.funs k) _ s.0 in
    let m : 2 * nodes (exp_of c.args.e.now) ≡ t = c.decreases in
    let n : nodes (exp_of c.args.e.now) ≡ 1 + all_nodes (exps_of c.in-Call.es.items) = ap nodes e in
    rw c.as_slice-in-Call.ensures.value (omega arith, (c.requires.inputs, (s.2, many)))

pub own-result_form-form-requires-clause-there : goal.own-result_form-form-requires-clause-there
own-result_form-form-requires-clause-there t c =
    let s = subst (IsSoundExp (names_of c.args.room.now)) (exp-Call c.args.e.now c.in-Call.number c.in-Call.es c.in-Call.is) c.requires.sound in
    call-there c.args.room.now.functions.now c.in-Call.number _ s.0

pub own-returns-in_ok-all-in-Cat : goal.own-returns-in_ok-all-in-Cat
own-returns-in_ok-all-in-Cat t c =
    c.at-in-Cat.ensures
    ∙ own-Cat (names_of c.args.room.now) c.args.e.now c.in-Cat.es c.in_ok-all-in-Cat.all c.unsigned-in-Cat.result c.total_width-width.result c.in-Cat.is
    (c.in_ok-all-in-Cat.ensures ∙ ap (map (own_of (names_of c.args.room.now))) c.as_slice.ensures.value) c.unsigned-in-Cat.ensures
    (c.total_width-width.ensures ∙ ap (λ xs. widths_together (map sized_of xs)) c.as_slice-in-Cat.ensures.value)

pub own-returns-in_ok-all-in-Rep : goal.own-returns-in_ok-all-in-Rep
own-returns-in_ok-all-in-Rep t c =
    c.at-in-Rep.ensures
    ∙ own-Rep (names_of c.args.room.now) c.args.e.now c.in-Rep.count c.in-Rep.es c.in_ok-all-in-Rep.all c.unsigned-in-Rep.result c.total_width.result c.in-Rep.is
    (c.in_ok-all-in-Rep.ensures ∙ ap (map (own_of (names_of c.args.room.now))) c.as_slice-in-Rep.ensures.value) (c.unsigned-in-Rep.ensures ∙ ap (λ n. unsigned (n * c.total_width.result)) c.from-in-Rep.ensures)
    (c.total_width.ensures ∙ ap (λ xs. widths_together (map sized_of xs)) c.as_slice-in-Rep-2.ensures.value)

pub own-returns-in_ok-all-in-Call : goal.own-returns-in_ok-all-in-Call
own-returns-in_ok-all-in-Call t c =
    let names = names_of c.args.room.now in
    let k = c.in-Call.number in
    let same = ap (λ xs. at_inputs (map (own_of names) xs) (input_widths names k)) c.as_slice-in-Call.ensures.value in
    c.at-in-Call.ensures
    ∙ own-Call names c.args.e.now k c.in-Call.es c.in_ok-all-in-Call.all c.result_form-form.result c.in-Call.is (c.in_ok-all-in-Call.ensures ∙ same) c.result_form-form.ensures

pub arguments-own-requires : goal.arguments-own-requires
arguments-own-requires t c =
    let m : 2 * all_nodes (exps_of c.args.es.now) + 1 ≡ t = c.decreases in
    let n = item-nodes c.args.es.now c.loop-i.i c.index-es-i.result c.loop-i-test.true c.index-es-i.is in
    (omega arith, (c.requires.inputs, item-sound (names_of c.args.room.now) c.args.es.now c.loop-i.i c.index-es-i.result c.requires.sound c.loop-i-test.true c.index-es-i.is))

pub arguments-loop-i-preserved : goal.arguments-loop-i-preserved
arguments-loop-i-preserved t c =
    let names = names_of c.args.room.now in
    arguments-step (own_of names) c.args.es.now (input_widths names c.args.function) c.loop-i.i c.index-es-i.result _ _ c.assigned.result
    c.loop-i.invariant c.in_ok-push.ensures.items c.loop-i-test.true c.requires.many c.index-es-i.is
    (c.assigned.ensures ∙ (ap (λ x. at_input x c.input_width-width.result) c.in_ok-argument.ensures ∙ ap (at_input (own_of names c.index-es-i.result)) c.input_width-width.ensures.value))
