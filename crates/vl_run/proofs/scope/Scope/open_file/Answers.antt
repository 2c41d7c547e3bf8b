use Rattle.std.proofs.Common.{map}
use Rattle.vl_design.specs.Trees.{arg_of}
use Rattle.vl_run.specs.Scopes.{scope_of}
use Rattle.vl_run.proofs.Filing.{no-open, opens}
use Rattle.vl_run.proofs.scope.Scope.open_file.Goals as goal

pub returns-in-None-clause-does : goal.returns-in-None-clause-does
returns-in-None-clause-does g c = no-open (scope_of c.args.self.now) (map arg_of c.args.args.now) c.args.m.now c.requires.goes_on c.in-None.ensures

pub returns-in_ok-answer-in-Some-clause-does : goal.returns-in_ok-answer-in-Some-clause-does
returns-in_ok-answer-in-Some-clause-does g c =
    let done = c.in_ok-answer-in-Some in
    opens (scope_of c.args.self.now) (map arg_of c.args.args.now) c.args.m.now c.requires.goes_on c.in-Some.name.now c.open.new.table done.answer c.in-Some.ensures done.ensures.table done.ensures.answer
