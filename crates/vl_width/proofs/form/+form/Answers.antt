use Rattle.std.proofs.Common.{◌≡◌, ◌+◌, ◌*◌, ◌∙◌, ap, sym, subst, arith}
use Rattle.vl_design.specs.Trees.{exp_of, exps_of}
use Rattle.vl_design.specs.Sound.{IsSoundExp}
use Rattle.vl_design.specs.Width.{form, total_width, unsigned}
use Rattle.vl_width.specs.Nodes.{nodes, all_nodes}
use Rattle.vl_width.specs.Room.{names_of}
use Rattle.vl_width.proofs.Owning.{exp-Cat, exp-Rep, exp-Call, item-sound, item-nodes, call-there, total-narrow}
use Rattle.vl_width.proofs.form.+form.Goals as goal

pub own_form-total_width-requires : goal.own_form-total_width-requires
own_form-total_width-requires t c =
    let e = exp-Cat c.args.e.now c.in-Cat.es c.in-Cat.is in
    let s = subst (IsSoundExp (names_of c.args.room.now)) e c.requires in
    let m : 2 * nodes (exp_of c.args.e.now) ≡ t = c.decreases in
    let n : nodes (exp_of c.args.e.now) ≡ 1 + all_nodes (exps_of c.in-Cat.es.items) = ap nodes e in
    rw c.as_slice.ensures.value (omega arith, (s.1, s.0.narrow))

pub own_form-total_width-requires-in-Rep : goal.own_form-total_width-requires-in-Rep
own_form-total_width-requires-in-Rep t c =
    let e = exp-Rep c.args.e.now c.in-Rep.count c.in-Rep.es c.in-Rep.is in
    let s = subst (IsSoundExp (names_of c.args.room.now)) e c.requires in
    let m : 2 * nodes (exp_of c.args.e.now) ≡ t = c.decreases in
    let n : nodes (exp_of c.args.e.now) ≡ 1 + all_nodes (exps_of c.in-Rep.es.items) = ap nodes e in
    rw c.as_slice-in-Rep.ensures.value (omega arith, (s.1, total-narrow c.in-Rep.count (total_width (names_of c.args.room.now) (exps_of c.in-Rep.es.items)) s.0))

pub own_form-overflow_mul-from : goal.own_form-overflow_mul-from
own_form-overflow_mul-from t c =
    let names = names_of c.args.room.now in
    let s = subst (IsSoundExp names) (exp-Rep c.args.e.now c.in-Rep.count c.in-Rep.es c.in-Rep.is) c.requires in
    let n = s.0.narrow in
    let w = c.total_width-in-Rep.ensures ∙ ap (λ xs. total_width names (exps_of xs)) c.as_slice-in-Rep.ensures.value in
    let e = ap (λ n. n * c.total_width-in-Rep.result) c.from-in-Rep.ensures ∙ ap (λ t. c.in-Rep.count * t) w in
    rw e (omega arith)

pub own_form-result_form-requires-clause-there : goal.own_form-result_form-requires-clause-there
own_form-result_form-requires-clause-there t c =
    let s = subst (IsSoundExp (names_of c.args.room.now)) (exp-Call c.args.e.now c.in-Call.function c.in-Call.field-1 c.in-Call.is) c.requires in
    call-there c.args.room.now.functions.now c.in-Call.function _ s.0

pub own_form-returns-in-Cat : goal.own_form-returns-in-Cat
own_form-returns-in-Cat t c =
    let names = names_of c.args.room.now in
    let w = c.total_width.ensures ∙ ap (λ xs. total_width names (exps_of xs)) c.as_slice.ensures.value in
    c.unsigned-in-Cat.ensures ∙ (ap unsigned w ∙ sym (ap (form names) (exp-Cat c.args.e.now c.in-Cat.es c.in-Cat.is)))

pub own_form-returns-in-Rep : goal.own_form-returns-in-Rep
own_form-returns-in-Rep t c =
    let names = names_of c.args.room.now in
    let w = c.total_width-in-Rep.ensures ∙ ap (λ xs. total_width names (exps_of xs)) c.as_slice-in-Rep.ensures.value in
    let e = ap (λ n. n * c.total_width-in-Rep.result) c.from-in-Rep.ensures ∙ ap (λ t. c.in-Rep.count * t) w in
    c.unsigned-in-Rep.ensures ∙ (ap unsigned e ∙ sym (ap (form names) (exp-Rep c.args.e.now c.in-Rep.count c.in-Rep.es c.in-Rep.is)))

pub total_width-own_form-total-requires : goal.total_width-own_form-total-requires
total_width-own_form-total-requires t c =
    let m : 2 * all_nodes (exps_of c.args.es.now) + 1 ≡ t = c.decreases in
    let n = item-nodes c.args.es.now c.loop-e.e-index c.e-item.result c.loop-e-test.true c.e-item.is in
    (omega arith, item-sound (names_of c.args.room.now) c.args.es.now c.loop-e.e-index c.e-item.result c.requires.sound c.loop-e-test.true c.e-item.is)
