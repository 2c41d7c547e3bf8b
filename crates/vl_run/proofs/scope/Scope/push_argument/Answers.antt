use Rattle.std.proofs.Common.{map}
use Rattle.vl_design.specs.Trees.{arg_of, exp_of}
use Rattle.vl_eval.specs.Rooms.{sample_of}
use Rattle.vl_run.specs.Scopes.{scope_of}
use Rattle.vl_run.proofs.Pieces.{text-first, text-rest, text-shown, null-rest, value-rest, value-first}
use Rattle.vl_run.proofs.scope.Scope.push_argument.Goals as goal

pub returns-in_ok-push-in-Null-clause-sound : goal.returns-in_ok-push-in-Null-clause-sound
returns-in_ok-push-in-Null-clause-sound g c =
    let sound = rw c.in-Null.is at c.requires.sound in
    null-rest (scope_of c.args.self.now) (sample_of c.args.s.now) c.args.path.now (map arg_of c.args.rest.now) sound

pub push_format-requires-clause-sound : goal.push_format-requires-clause-sound
push_format-requires-clause-sound g c =
    let sound = rw c.in-Str.is at c.requires.sound in
    rw c.as_slice.ensures (text-first (scope_of c.args.self.now) (sample_of c.args.s.now) c.args.path.now c.in-Str.text (map arg_of c.args.rest.now) sound)

pub returns-in_ok-taken-in-Str-clause-text : goal.returns-in_ok-taken-in-Str-clause-text
returns-in_ok-taken-in-Str-clause-text g c =
    let sound = rw c.in-Str.is at c.requires.sound in
    let done = c.in_ok-taken-in-Str.ensures in
    let text = rw c.as_slice.ensures at done.text in
    let takes = rw c.as_slice.ensures at done.takes in
    rw (c.in-Str.is, takes) (text-shown (scope_of c.args.self.now) (sample_of c.args.s.now) c.args.path.now c.in-Str.text (map arg_of c.args.rest.now) sound
    c.args.printed.now.items c.push_format.new.printed.items text)

pub returns-in_ok-taken-in-Str-clause-sound : goal.returns-in_ok-taken-in-Str-clause-sound
returns-in_ok-taken-in-Str-clause-sound g c =
    let sound = rw c.in-Str.is at c.requires.sound in
    let done = c.in_ok-taken-in-Str.ensures in
    let takes = rw c.as_slice.ensures at done.takes in
    rw takes (text-rest (scope_of c.args.self.now) (sample_of c.args.s.now) c.args.path.now c.in-Str.text (map arg_of c.args.rest.now) sound)

pub shown_value-requires-clause-sound : goal.shown_value-requires-clause-sound
shown_value-requires-clause-sound g c =
    let sound = rw c.in-Value.is at c.requires.sound in
    value-first (scope_of c.args.self.now) (sample_of c.args.s.now) c.args.path.now (exp_of c.in-Value.e) (map arg_of c.args.rest.now) sound

pub returns-in_ok-push_item-in-Value-clause-sound : goal.returns-in_ok-push_item-in-Value-clause-sound
returns-in_ok-push_item-in-Value-clause-sound g c =
    let sound = rw c.in-Value.is at c.requires.sound in
    value-rest (scope_of c.args.self.now) (sample_of c.args.s.now) c.args.path.now (exp_of c.in-Value.e) (map arg_of c.args.rest.now) sound
