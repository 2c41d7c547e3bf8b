use Rattle.std.proofs.lemmas.Result.{on_ok_weaker}
use Rattle.vl_design.specs.Seen as seen
use Rattle.vl_design.specs.Syntax.{Later}
use Rattle.vl_design.specs.Trees.{exp_of, target_of}
use Rattle.vl_eval.specs.Rooms.{names_of}
use Rattle.vl_run.specs.Scopes.{scope_of}
use Rattle.vl_run.proofs.Called.{call-sound, later-target, later-source, does-called}
use Rattle.vl_run.proofs.scope.Scope.set_later.Goals as goal

pub call_first-requires-clause-sound : goal.call_first-requires-clause-sound
call_first-requires-clause-sound g c = call-sound (names_of c.args.self.now.room) c.args.path.now (seen.exp_of c.args.source.now) (Later (target_of c.args.target.now) (exp_of c.args.source.now)) c.requires.sound

pub assign_later-requires-clause-target : goal.assign_later-requires-clause-target
assign_later-requires-clause-target g c = later-target (names_of c.args.self.now.room) c.args.path.now (seen.exp_of c.args.source.now) (target_of c.args.target.now) (exp_of c.args.source.now) c.requires.sound

pub assign_later-requires-clause-source : goal.assign_later-requires-clause-source
assign_later-requires-clause-source g c = later-source (names_of c.args.self.now.room) c.args.path.now (seen.exp_of c.args.source.now) (target_of c.args.target.now) (exp_of c.args.source.now) c.requires.sound

pub returns-clause-does : goal.returns-clause-does
returns-clause-does g c =
    on_ok_weaker _
    (does-called (scope_of c.args.self.now) c.args.path.now (seen.exp_of c.args.source.now) (Later (target_of c.args.target.now) (exp_of c.args.source.now)) c.args.m.now c.call_first.new.m c.assign_later.new.m c.in_ok-call_first.ensures.does)
    c.assign_later.ensures.does
