use Rattle.std.proofs.Common.{ap}
use Rattle.vl_design.specs.declared.design.Form.{Form}
use Rattle.vl_eval.specs.Rooms.{names_of}
use Rattle.vl_eval.proofs.Reading.{reads-called, first-rest}
use Rattle.vl_eval.proofs.eval.called.Goals as goal

pub returns-in-len1-up-clause-reads : goal.returns-in-len1-up-clause-reads
returns-in-len1-up-clause-reads c = λ s es.
    let f = first-rest c.args.calls.now c.in-len1-up.len_at_least in
    let width = ap (λ (f : Form). f.width) c.result_form.ensures in
    reads-called (names_of c.args.room.now) s c.args.c c.args.function es c.args.calls.now _ _ c.result_form.result.width c.resize.result.value c.resize-own.result.value f width c.resize-own.ensures.value
    (rw (← c.resize-own.ensures.width) c.resize.ensures.value)
