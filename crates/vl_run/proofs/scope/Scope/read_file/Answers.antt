use Rattle.std.proofs.Common.{◌≡◌, ap, sym, ◌∙◌, drop, map}
use Rattle.std.proofs.lemmas.List.{drop-map}
use Rattle.vl_design.specs.Trees.{arg_of, exp_of}
use Rattle.vl_eval.specs.Rooms.{names_of}
use Rattle.vl_run.specs.Scopes.{scope_of}
use Rattle.vl_run.proofs.Filing.{no-signal, no-descriptor, read-some, read-sound}
use Rattle.vl_run.proofs.scope.Scope.read_file.Goals as goal

pub read_to-requires-clause-signal : goal.read_to-requires-clause-signal
read_to-requires-clause-signal g c =
    let rest : map arg_of c.behind.result.now ≡ drop 1 (map arg_of c.args.args.now) = ap (map arg_of) c.behind.ensures ∙ sym (drop-map arg_of 1 c.args.args.now) in
    let given = rw rest at c.in-Some-value_first.ensures in
    (read-sound (names_of c.args.self.now.room) (map arg_of c.args.args.now) c.in-Some.signal (exp_of c.in-Some-value_first.fd.now) c.in-Some.ensures given c.requires.sound).0

pub read_to-requires-clause-sound : goal.read_to-requires-clause-sound
read_to-requires-clause-sound g c =
    let rest : map arg_of c.behind.result.now ≡ drop 1 (map arg_of c.args.args.now) = ap (map arg_of) c.behind.ensures ∙ sym (drop-map arg_of 1 c.args.args.now) in
    let given = rw rest at c.in-Some-value_first.ensures in
    (read-sound (names_of c.args.self.now.room) (map arg_of c.args.args.now) c.in-Some.signal (exp_of c.in-Some-value_first.fd.now) c.in-Some.ensures given c.requires.sound).1

pub returns-in-None-clause-does : goal.returns-in-None-clause-does
returns-in-None-clause-does g c = no-signal (scope_of c.args.self.now) (map arg_of c.args.args.now) c.args.m.now c.requires.goes_on c.in-None.ensures

pub returns-in-None-value_first-clause-does : goal.returns-in-None-value_first-clause-does
returns-in-None-value_first-clause-does g c =
    let rest : map arg_of c.behind.result.now ≡ drop 1 (map arg_of c.args.args.now) = ap (map arg_of) c.behind.ensures ∙ sym (drop-map arg_of 1 c.args.args.now) in
    let given = rw rest at c.in-None-value_first.ensures in
    no-descriptor (scope_of c.args.self.now) (map arg_of c.args.args.now) c.args.m.now c.requires.goes_on given

pub returns-in-Some-value_first-clause-does : goal.returns-in-Some-value_first-clause-does
returns-in-Some-value_first-clause-does g c =
    let rest : map arg_of c.behind.result.now ≡ drop 1 (map arg_of c.args.args.now) = ap (map arg_of) c.behind.ensures ∙ sym (drop-map arg_of 1 c.args.args.now) in
    let given = rw rest at c.in-Some-value_first.ensures in
    rw (read-some (map arg_of c.args.args.now) c.in-Some.signal (exp_of c.in-Some-value_first.fd.now) c.in-Some.ensures given) c.read_to.ensures.does
