use Rattle.std.proofs.Common.{◌≡◌, ap, sym, ◌∙◌, drop, map}
use Rattle.std.proofs.lemmas.List.{drop-map}
use Rattle.vl_design.specs.Trees.{arg_of}
use Rattle.vl_eval.specs.Rooms.{names_of}
use Rattle.vl_run.specs.Scopes.{scope_of}
use Rattle.vl_run.proofs.Filing.{no-name, no-memory, load-some, load-sound}
use Rattle.vl_run.proofs.scope.Scope.load_memory.Goals as goal

pub load_from-requires-clause-memory : goal.load_from-requires-clause-memory
load_from-requires-clause-memory g c =
    let rest : map arg_of c.behind.result.now ≡ drop 1 (map arg_of c.args.args.now) = ap (map arg_of) c.behind.ensures ∙ sym (drop-map arg_of 1 c.args.args.now) in
    let given = rw rest at c.in-Some-signal_first.ensures in
    load-sound (names_of c.args.self.now.room) (map arg_of c.args.args.now) c.in-Some.name.now c.in-Some-signal_first.memory c.in-Some.ensures given c.requires.sound

pub returns-in-None-clause-does : goal.returns-in-None-clause-does
returns-in-None-clause-does g c = no-name (scope_of c.args.self.now) (map arg_of c.args.args.now) c.args.m.now c.requires.goes_on c.in-None.ensures

pub returns-in-None-signal_first-clause-does : goal.returns-in-None-signal_first-clause-does
returns-in-None-signal_first-clause-does g c =
    let rest : map arg_of c.behind.result.now ≡ drop 1 (map arg_of c.args.args.now) = ap (map arg_of) c.behind.ensures ∙ sym (drop-map arg_of 1 c.args.args.now) in
    let given = rw rest at c.in-None-signal_first.ensures in
    no-memory (scope_of c.args.self.now) (map arg_of c.args.args.now) c.args.m.now c.requires.goes_on given

pub returns-in-Some-signal_first-clause-does : goal.returns-in-Some-signal_first-clause-does
returns-in-Some-signal_first-clause-does g c =
    let rest : map arg_of c.behind.result.now ≡ drop 1 (map arg_of c.args.args.now) = ap (map arg_of) c.behind.ensures ∙ sym (drop-map arg_of 1 c.args.args.now) in
    let given = rw rest at c.in-Some-signal_first.ensures in
    rw (load-some (map arg_of c.args.args.now) c.in-Some.name.now c.in-Some-signal_first.memory c.in-Some.ensures given) c.load_from.ensures.does
