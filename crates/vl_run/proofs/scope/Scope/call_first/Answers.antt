use Rattle.std.proofs.lemmas.Result.{on_ok_weaker}
use Rattle.vl_design.specs.Seen as seen
use Rattle.vl_eval.specs.Rooms.{names_of}
use Rattle.vl_run.specs.Scopes.{scope_of}
use Rattle.vl_run.proofs.Called.{none-does, some-does, some-sound}
use Rattle.vl_run.proofs.scope.Scope.call_first.Goals as goal

pub task-requires-clause-sound : goal.task-requires-clause-sound
task-requires-clause-sound g c = some-sound (names_of c.args.self.now.room) c.args.path.now (seen.exp_of c.args.e.now) c.in-Some.call.now c.in-Some.ensures c.requires.sound

pub returns-in-None-clause-does : goal.returns-in-None-clause-does
returns-in-None-clause-does g c = none-does (scope_of c.args.self.now) c.args.path.now (seen.exp_of c.args.e.now) c.args.m.now c.in-None.ensures

pub returns-in-Some-clause-does : goal.returns-in-Some-clause-does
returns-in-Some-clause-does g c =
    on_ok_weaker _ (some-does (scope_of c.args.self.now) c.args.path.now (seen.exp_of c.args.e.now) c.in-Some.call.now c.args.m.now c.task.new.m c.in-Some.ensures) c.task.ensures.does
