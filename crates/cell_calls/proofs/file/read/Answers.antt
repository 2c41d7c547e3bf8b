use Rattle.std.proofs.Common.{◌≡◌, ap, sym, ◌∙◌, map, drop}
use Rattle.std.proofs.lemmas.List.{drop-map}
use Rattle.vl_design.specs.Trees.{arg_of, exp_of, flat_of}
use Rattle.vl_design.specs.Width.{names_of}
use Rattle.vl_run.proofs.Filing.{read-some, read-sound}
use Rattle.cell_emit.specs.cell_form.specs.Views.{list_of}
use Rattle.cell_emit.specs.Envs.{env_of}
use Rattle.cell_calls.proofs.Calling.{traps-no-signal, traps-no-descriptor}
use Rattle.cell_calls.proofs.file.read.Goals as goal

pub read_to-requires-clause-variable : goal.read_to-requires-clause-variable
read_to-requires-clause-variable c =
    let rest : map arg_of c.behind.result.now ≡ drop 1 (map arg_of c.args.args.now) = ap (map arg_of) c.behind.ensures ∙ sym (drop-map arg_of 1 c.args.args.now) in
    let given = rw rest at c.in-Some-value_first.ensures in
    (read-sound (names_of (flat_of c.args.site.design.now)) (map arg_of c.args.args.now) c.in-Some.variable (exp_of c.in-Some-value_first.fd.now) c.in-Some.ensures given c.requires.sound).0

pub read_to-requires-clause-sound : goal.read_to-requires-clause-sound
read_to-requires-clause-sound c =
    let rest : map arg_of c.behind.result.now ≡ drop 1 (map arg_of c.args.args.now) = ap (map arg_of) c.behind.ensures ∙ sym (drop-map arg_of 1 c.args.args.now) in
    let given = rw rest at c.in-Some-value_first.ensures in
    (read-sound (names_of (flat_of c.args.site.design.now)) (map arg_of c.args.args.now) c.in-Some.variable (exp_of c.in-Some-value_first.fd.now) c.in-Some.ensures given c.requires.sound).1

pub returns-in-None-clause-traps : goal.returns-in-None-clause-traps
returns-in-None-clause-traps c =
    traps-no-signal (flat_of c.args.site.design.now) (env_of c.args.site.at.now) (list_of c.args.cells.now) (map arg_of c.args.args.now) c.silent.result c.in-None.ensures c.silent.ensures

pub returns-in-None-value_first-clause-traps : goal.returns-in-None-value_first-clause-traps
returns-in-None-value_first-clause-traps c =
    let rest : map arg_of c.behind.result.now ≡ drop 1 (map arg_of c.args.args.now) = ap (map arg_of) c.behind.ensures ∙ sym (drop-map arg_of 1 c.args.args.now) in
    let given = rw rest at c.in-None-value_first.ensures in
    traps-no-descriptor (flat_of c.args.site.design.now) (env_of c.args.site.at.now) (list_of c.args.cells.now) (map arg_of c.args.args.now) c.silent-in-None-value_first.result given c.silent-in-None-value_first.ensures

pub returns-in-Some-value_first-clause-traps : goal.returns-in-Some-value_first-clause-traps
returns-in-Some-value_first-clause-traps c =
    let rest : map arg_of c.behind.result.now ≡ drop 1 (map arg_of c.args.args.now) = ap (map arg_of) c.behind.ensures ∙ sym (drop-map arg_of 1 c.args.args.now) in
    let given = rw rest at c.in-Some-value_first.ensures in
    rw (read-some (map arg_of c.args.args.now) c.in-Some.variable (exp_of c.in-Some-value_first.fd.now) c.in-Some.ensures given) c.read_to.ensures.traps
