use Rattle.std.proofs.Common.{map}
use Rattle.vl_design.specs.Trees.{arg_of}
use Rattle.vl_run.specs.Scopes.{scope_of}
use Rattle.vl_run.proofs.Filing.{no-save, saves}
use Rattle.vl_run.proofs.scope.Scope.save.Goals as goal

pub returns-in-None-clause-does : goal.returns-in-None-clause-does
returns-in-None-clause-does g c = no-save (scope_of c.args.self.now) (map arg_of c.args.args.now) c.args.m.now c.requires.goes_on c.in-None.ensures

pub returns-in_ok-push-in-Some-clause-does : goal.returns-in_ok-push-in-Some-clause-does
returns-in_ok-push-in-Some-clause-does g c =
    let asked = rw c.in_ok-copy-in-Some.ensures at c.in_ok-push-in-Some.ensures.items in
    saves (scope_of c.args.self.now) (map arg_of c.args.args.now) c.args.m.now c.requires.goes_on c.in-Some.name.now c.push.new.self c.in-Some.ensures asked
