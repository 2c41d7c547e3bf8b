use Rattle.std.proofs.Common.{◌∙◌, ap, refl}
use Rattle.vl_design.specs.declared.design.Form.{Form}
use Rattle.vl_design.specs.Syntax.{ReadHex}
use Rattle.vl_design.specs.Trees.{row_of}
use Rattle.vl_run.specs.Scopes.{scope_of}
use Rattle.vl_run.proofs.Filing.{loads-none, loads, filed-machine}
use Rattle.vl_run.proofs.scope.Scope.load_from.Goals as goal

pub returns-in-None-clause-does : goal.returns-in-None-clause-does
returns-in-None-clause-does g c = loads-none (scope_of c.args.self.now) c.args.name.now c.args.memory c.args.m.now c.requires.goes_on c.in-None.ensures

pub returns-in_ok-words-in-Some-clause-does : goal.returns-in_ok-words-in-Some-clause-does
returns-in_ok-words-in-Some-clause-does g c =
    let shape = c.memory_of-shape in
    let words = c.in_ok-words-in-Some in
    let old = rw c.deref.ensures.value at words.ensures in
    let wide = shape.ensures.width ∙ ap (λ (z : Form). z.width) c.signal_form-form.ensures.value in
    let read = rw c.as_slice.ensures at c.load.ensures in
    loads (scope_of c.args.self.now) c.args.name.now c.args.memory c.args.m.now c.requires.goes_on c.put.new.values shape.result.width shape.result.count shape.result.lowest c.in-Some.bytes.now words.words c.load.new.words
    (row_of c.signal_at.result.now) c.in-Some.ensures c.signal_at.ensures wide shape.ensures.lowest shape.ensures.count old read c.put.ensures

pub returns-in_ok-words-in-Some-clause-machine : goal.returns-in_ok-words-in-Some-clause-machine
returns-in_ok-words-in-Some-clause-machine g c =
    filed-machine (scope_of c.args.self.now) (ReadHex c.args.name.now c.args.memory) c.args.m.now _ (returns-in_ok-words-in-Some-clause-does g c) c.requires.machine refl
