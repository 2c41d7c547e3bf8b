use Rattle.std.proofs.Common.{map}
use Rattle.vl_design.specs.Syntax.{Fgetc}
use Rattle.vl_design.specs.Trees.{arg_of, exp_of}
use Rattle.vl_eval.specs.Rooms.{names_of}
use Rattle.vl_run.specs.Scopes.{scope_of}
use Rattle.vl_run.proofs.Filing.{file-sound, no-file, characters}
use Rattle.vl_run.proofs.scope.Scope.read_character.Goals as goal

pub descriptor-requires-clause-sound : goal.descriptor-requires-clause-sound
descriptor-requires-clause-sound g c = file-sound (names_of c.args.self.now.room) Fgetc (map arg_of c.args.args.now) (exp_of c.in-Some.fd.now) c.in-Some.ensures c.requires.sound

pub returns-in-None-clause-does : goal.returns-in-None-clause-does
returns-in-None-clause-does g c = no-file (scope_of c.args.self.now) (map arg_of c.args.args.now) c.args.m.now c.requires.goes_on Fgetc c.in-None.ensures

pub returns-in_ok-answer-in-Some-clause-does : goal.returns-in_ok-answer-in-Some-clause-does
returns-in_ok-answer-in-Some-clause-does g c =
    let number = c.in_ok-number-in-Some in
    let done = c.in_ok-answer-in-Some in
    let is = rw c.sample.ensures at number.ensures in
    characters (scope_of c.args.self.now) (map arg_of c.args.args.now) c.args.m.now c.requires.goes_on (exp_of c.in-Some.fd.now) number.number c.in-Some.ensures is c.next_character.new.table done.answer done.ensures.table
    done.ensures.answer
