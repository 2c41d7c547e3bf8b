use Rattle.std.proofs.lemmas.Result.{on_ok_weaker}
use Rattle.vl_design.specs.Trees.{exp_of, target_of}
use Rattle.vl_run.specs.Scopes.{scope_of}
use Rattle.vl_run.proofs.Assigning.{does-later}
use Rattle.vl_run.proofs.scope.Scope.assign_later.Goals as goal

pub returns-clause-does : goal.returns-clause-does
returns-clause-does g c =
    let updates = rw c.deref.ensures.value at c.push_assignment.ensures.updates in
    on_ok_weaker _ (does-later (scope_of c.args.self.now) (target_of c.args.target.now) (exp_of c.args.source.now) c.args.m.now c.push_assignment.new.updates c.if-m.false) updates
