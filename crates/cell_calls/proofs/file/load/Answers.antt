use Rattle.std.proofs.Common.{◌≡◌, ap, sym, ◌∙◌, map, drop}
use Rattle.std.proofs.lemmas.List.{drop-map}
use Rattle.vl_design.specs.Trees.{arg_of, flat_of}
use Rattle.vl_design.specs.Width.{names_of}
use Rattle.vl_run.proofs.Filing.{load-some, load-sound}
use Rattle.cell_emit.specs.cell_form.specs.Views.{list_of}
use Rattle.cell_emit.specs.Envs.{env_of}
use Rattle.cell_calls.proofs.Calling.{traps-no-name, traps-no-memory}
use Rattle.cell_calls.proofs.file.load.Goals as goal

pub load_to-requires : goal.load_to-requires
load_to-requires c =
    let rest : map arg_of c.behind.result.now ≡ drop 1 (map arg_of c.args.args.now) = ap (map arg_of) c.behind.ensures ∙ sym (drop-map arg_of 1 c.args.args.now) in
    let given = rw rest at c.in-Some-signal_first.ensures in
    load-sound (names_of (flat_of c.args.site.design.now)) (map arg_of c.args.args.now) c.in-Some.name.now c.in-Some-signal_first.memory c.in-Some.ensures given c.requires

pub returns-in-None : goal.returns-in-None
returns-in-None c =
    traps-no-name (flat_of c.args.site.design.now) (env_of c.args.site.at.now) (list_of c.args.cells.now) (map arg_of c.args.args.now) c.silent.result c.in-None.ensures c.silent.ensures

pub returns-in-None-signal_first : goal.returns-in-None-signal_first
returns-in-None-signal_first c =
    let rest : map arg_of c.behind.result.now ≡ drop 1 (map arg_of c.args.args.now) = ap (map arg_of) c.behind.ensures ∙ sym (drop-map arg_of 1 c.args.args.now) in
    let given = rw rest at c.in-None-signal_first.ensures in
    traps-no-memory (flat_of c.args.site.design.now) (env_of c.args.site.at.now) (list_of c.args.cells.now) (map arg_of c.args.args.now) c.silent-in-None-signal_first.result given c.silent-in-None-signal_first.ensures

pub returns-in-Some-signal_first : goal.returns-in-Some-signal_first
returns-in-Some-signal_first c =
    let rest : map arg_of c.behind.result.now ≡ drop 1 (map arg_of c.args.args.now) = ap (map arg_of) c.behind.ensures ∙ sym (drop-map arg_of 1 c.args.args.now) in
    let given = rw rest at c.in-Some-signal_first.ensures in
    rw (load-some (map arg_of c.args.args.now) c.in-Some.name.now c.in-Some-signal_first.memory c.in-Some.ensures given) c.load_to.ensures
