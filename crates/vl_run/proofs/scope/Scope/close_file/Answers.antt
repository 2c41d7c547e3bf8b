use Rattle.std.proofs.Common.{map}
use Rattle.vl_design.specs.Syntax.{Fclose}
use Rattle.vl_design.specs.Trees.{arg_of, exp_of}
use Rattle.vl_eval.specs.Rooms.{names_of}
use Rattle.vl_run.specs.Scopes.{scope_of}
use Rattle.vl_run.proofs.Filing.{file-sound, no-file, closes}
use Rattle.vl_run.proofs.scope.Scope.close_file.Goals as goal

pub descriptor-requires-clause-sound : goal.descriptor-requires-clause-sound
descriptor-requires-clause-sound g c = file-sound (names_of c.args.self.now.room) Fclose (map arg_of c.args.args.now) (exp_of c.in-Some.fd.now) c.in-Some.ensures c.requires.sound

pub returns-in-None-clause-does : goal.returns-in-None-clause-does
returns-in-None-clause-does g c = no-file (scope_of c.args.self.now) (map arg_of c.args.args.now) c.args.m.now c.requires.goes_on Fclose c.in-None.ensures

pub returns-in_ok-number-in-Some-clause-does : goal.returns-in_ok-number-in-Some-clause-does
returns-in_ok-number-in-Some-clause-does g c =
    let number = c.in_ok-number-in-Some in
    let is = rw c.sample.ensures at number.ensures in
    closes (scope_of c.args.self.now) (map arg_of c.args.args.now) c.args.m.now c.requires.goes_on (exp_of c.in-Some.fd.now) number.number c.in-Some.ensures is c.close.new.table c.close.ensures
