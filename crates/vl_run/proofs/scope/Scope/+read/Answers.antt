use Rattle.std.proofs.Common.{ap, sym, ◌∙◌, ◌++◌, ◌+◌, append_assoc, drop}
use Rattle.std.proofs.lemmas.Result.{on_ok_weaker}
use Rattle.vl_design.specs.Trees.{exp_of, exps_of}
use Rattle.vl_design.specs.Width.{input_widths}
use Rattle.vl_eval.specs.Answers.{answers_of, all_answers}
use Rattle.vl_eval.specs.Rooms.{names_of, sample_of}
use Rattle.vl_eval.proofs.Rows.{has-parts, exps-more}
use Rattle.vl_run.specs.Scopes.{scope_of}
use Rattle.vl_run.proofs.Reading.{append-two, append-three, function-there, call-sound, arguments-on, arguments-over, listed-answers, pair-answers, call-values, call-fits}
use Rattle.vl_run.proofs.scope.Scope.+read.Goals as goal

pub answer-give-requires-clause-fit : goal.answer-give-requires-clause-fit
answer-give-requires-clause-fit g t c = call-fits (scope_of c.args.self.now) (sample_of c.args.s.now) c.args.e.now c.in-Call.function c.in-Call.field-1 _ c.in-Call.is c.in_ok-values-in-Call.ensures

pub answer-loop-part-init : goal.answer-loop-part-init
answer-loop-part-init g t c =
    let p = has-parts (names_of c.args.self.now.room) c.args.e.now c.in-Cat.list c.in-Cat.is c.requires.sound in
    let e = listed-answers (scope_of c.args.self.now) (sample_of c.args.s.now) c.args.e.now c.in-Cat.list c.in-Cat.is in
    rw (c.deref-part-items.ensures.value)
    record {
      sound = p.sound;
      leads = ap (λ z. c.args.answers.now.items ++ z) (sym e);
    }

pub answer-loop-part-preserved : goal.answer-loop-part-preserved
answer-loop-part-preserved g t c =
    let scope = scope_of c.args.self.now in
    let s = sample_of c.args.s.now in
    let e = exps-more c.deref-part-items.result.now c.loop-part.part-index c.part-item.result c.loop-part-test.true c.part-item.is in
    let l = c.loop-part.invariant in
    let sound = rw e at l.sound in
    let leads = rw e at l.leads in
    record {
      sound = sound.1;
      leads = rw (c.in_ok-answer-in-Cat.ensures) (append_assoc c.loop-part.answers.items (answers_of scope s (exp_of c.part-item.result)) (all_answers scope s (exps_of (drop (c.loop-part.part-index + 1) c.deref-part-items.result.now))) ∙ leads);
    }

pub answer-returns-in_ok-answer-in-Cond-2 : goal.answer-returns-in_ok-answer-in-Cond-2
answer-returns-in_ok-answer-in-Cond-2 g t c =
    let x = rw c.deref.ensures at c.in_ok-answer-in-Cond.ensures in
    let y = rw c.deref-in-Cond.ensures at c.in_ok-answer-in-Cond-2.ensures in
    let z = rw c.deref-in-Cond-2.ensures at c.answer-in-Cond-2.ensures in
    rw c.in-Cond.is (on_ok_weaker _ (append-three c.args.answers.now.items _ _ _ _ _ _ x y) z)

pub answer-returns-in_ok-answer-in-Pick : goal.answer-returns-in_ok-answer-in-Pick
answer-returns-in_ok-answer-in-Pick g t c =
    let x = rw c.deref-in-Pick.ensures at c.in_ok-answer-in-Pick.ensures in
    let y = rw c.deref-in-Pick-2.ensures at c.answer-in-Pick-2.ensures in
    let e = pair-answers (scope_of c.args.self.now) (sample_of c.args.s.now) c.args.e.now c.in-Pick.a c.in-Pick.b c.in-Pick.is in
    rw (← e) (on_ok_weaker _ (append-two c.args.answers.now.items _ _ _ _ x) y)

pub arguments-loop-argument-init : goal.arguments-loop-argument-init
arguments-loop-argument-init g t c =
    let names = names_of c.args.self.now.room in
    let s = call-sound names c.args.e.now c.in-Call.function c.in-Call.list c.in-Call.is c.requires.sound in
    let k = call-values (scope_of c.args.self.now) (sample_of c.args.s.now) c.args.e.now c.in-Call.function c.in-Call.list c.in-Call.is in
    rw (c.new-values.ensures.items, c.deref-argument-items.ensures.value)
    record {
      there = function-there c.args.self.now.room.funcs.now c.in-Call.function _ s.0;
      sound = s.1;
      leads = sym k;
    }

pub arguments-returns-in-None : goal.arguments-returns-in-None
arguments-returns-in-None g t c =
    let none = sym c.input_width.ensures.value ∙ c.in-None.is in
    let last = rw (c.len.ensures, c.loop-argument.values.ok.0) at none in
    arguments-over (scope_of c.args.self.now) (sample_of c.args.s.now) c.loop-argument.values.items (input_widths (names_of c.args.self.now.room) c.in-Call.function) _ _ last c.loop-argument.invariant.leads

pub arguments-loop-argument-preserved : goal.arguments-loop-argument-preserved
arguments-loop-argument-preserved g t c =
    let names = names_of c.args.self.now.room in
    let l = c.loop-argument.invariant in
    let e = exps-more c.deref-argument-items.result.now c.loop-argument.argument-index c.argument-item.result c.loop-argument-test.true c.argument-item.is in
    let some = sym c.input_width.ensures.value ∙ c.in-Some.is in
    let width = rw (c.len.ensures, c.loop-argument.values.ok.0) at some in
    let value = rw (c.assigned-context.ensures, c.form_of.ensures.value) at c.in_ok-bits-in-Some.ensures.value in
    let sound = rw e at l.sound in
    rw (c.in_ok-push-in-Some.ensures.items)
    record {
      there = l.there;
      sound = sound.1;
      leads = arguments-on (scope_of c.args.self.now) (sample_of c.args.s.now) c.loop-argument.values.items (input_widths names c.in-Call.function) _ _ _ _ c.in-Some.width c.in_ok-bits-in-Some.bits.value c.resize.result.value e width value c.resize.ensures.value l.leads;
    }
