use Rattle.cell_emit.proofs.Frames.{grows-same}
use Rattle.std.proofs.Common.{ap}
use Rattle.vl_design.specs.declared.design.Form.{Form}
use Rattle.vl_design.specs.Trees.{exp_of}
use Rattle.cell_emit.specs.cell_form.specs.Views.{list_of}
use Rattle.cell_emit.specs.Envs.{env_of}
use Rattle.cell_expr.specs.Contexts.{scope_of, body_of}
use Rattle.cell_expr.specs.Counts.{own_count}
use Rattle.cell_expr.proofs.Adding.{whole-of, word-of, based-signal, based-word}
use Rattle.cell_expr.proofs.context.Context.base_in.Goals as goal

pub returns-in-Sig-clause-based : goal.returns-in-Sig-clause-based
returns-in-Sig-clause-based g c = λ files.
    let e = whole-of c.args.base.now c.in-Sig.signal c.in-Sig.is in
    let sound = rw e at c.requires.sound in
    let apart = rw e at c.requires.apart in
    rw e (based-signal (scope_of c.args.self.now files) (env_of c.args.at.now) c.in-Sig.signal (list_of c.args.cells.now) sound apart)

pub own_in-requires-clause-expression : goal.own_in-requires-clause-expression
own_in-requires-clause-expression g c =
    let e = word-of c.args.base.now c.in-Word.memory c.in-Word.address c.in-Word.is in
    let sound = rw e at c.requires.sound in
    rw c.deref-in-Word.ensures sound.1

pub returns-in_ok-slot-in-Word-clause-based : goal.returns-in_ok-slot-in-Word-clause-based
returns-in_ok-slot-in-Word-clause-based g c = λ files.
    let e = word-of c.args.base.now c.in-Word.memory c.in-Word.address c.in-Word.is in
    let sound = rw e at c.requires.sound in
    let a = exp_of c.in-Word.address.value in
    let gives = rw c.deref-in-Word.ensures at (c.in_ok-slot-in-Word.ensures.gives files) in
    let form = rw c.deref.ensures at c.form_of-signed.ensures.value in
    rw e (based-word (scope_of c.args.self.now files) (env_of c.args.at.now) (own_count (body_of c.args.self.now) a) c.in-Word.memory c.in_ok-slot-in-Word.slot a c.form_of-signed.result.signed (list_of c.args.cells.now) (list_of c.own_in.new.cells) sound.0 (ap (λ (f : Form). f.signed) form) gives)

pub returns-in-Sig-clause-grows : goal.returns-in-Sig-clause-grows
returns-in-Sig-clause-grows g c = grows-same (list_of c.args.cells.now)

pub returns-in_err-slot-in-Word-clause-grows : goal.returns-in_err-slot-in-Word-clause-grows
returns-in_err-slot-in-Word-clause-grows g c = c.own_in.ensures.grows

pub returns-in_ok-slot-in-Word-clause-grows : goal.returns-in_ok-slot-in-Word-clause-grows
returns-in_ok-slot-in-Word-clause-grows g c = c.in_ok-slot-in-Word.ensures.grows
