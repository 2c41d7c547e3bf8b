use Rattle.std.proofs.Common.{ap, refl}
use Rattle.vl_design.specs.declared.design.Form.{Form}
use Rattle.vl_design.specs.Syntax.{Fread}
use Rattle.vl_design.specs.Trees.{exp_of}
use Rattle.vl_run.specs.Scopes.{scope_of}
use Rattle.vl_run.proofs.Filing.{reads, filed-machine}
use Rattle.vl_run.proofs.scope.Scope.read_to.Goals as goal

pub returns-clause-does : goal.returns-clause-does
returns-clause-does g c =
    let number = c.in_ok-number in
    let given = c.in_ok-given in
    let is = rw c.sample.ensures at number.ensures in
    let before = rw c.deref.ensures.value at c.value_of-before.ensures in
    let kept = rw c.deref-2.ensures.value at c.in_ok-words.ensures in
    let words = rw kept at c.set.ensures in
    reads (scope_of c.args.self.now) c.args.signal (exp_of c.args.fd.now) c.args.m.now c.read.new.table c.put.new.values number.number c.signal_form-form.result.width c.value_of-before.result given.given.count given.given.value
    c.set.new.self c.requires.goes_on is (ap (λ (z : Form). z.width) c.signal_form-form.ensures.value) before given.ensures.table given.ensures.value given.ensures.count words c.put.ensures

pub returns-clause-machine : goal.returns-clause-machine
returns-clause-machine g c = filed-machine (scope_of c.args.self.now) (Fread c.args.signal (exp_of c.args.fd.now)) c.args.m.now _ (returns-clause-does g c) c.requires.machine refl
