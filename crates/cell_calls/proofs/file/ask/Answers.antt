use Rattle.std.proofs.Common.{map}
use Rattle.vl_design.specs.Trees.{arg_of, exp_of, flat_of}
use Rattle.vl_design.specs.Width.{names_of}
use Rattle.vl_run.proofs.Filing.{file-some, file-sound}
use Rattle.cell_emit.specs.cell_form.specs.Views.{list_of}
use Rattle.cell_emit.proofs.Newest.{ok-gives}
use Rattle.cell_emit.specs.Envs.{env_of}
use Rattle.cell_calls.specs.FileCalls.{query_task}
use Rattle.cell_calls.proofs.Calling.{traps-no-file, traps-query, query-sound}
use Rattle.cell_calls.proofs.file.ask.Goals as goal

pub returns-in-None-clause-traps : goal.returns-in-None-clause-traps
returns-in-None-clause-traps c =
    traps-no-file (flat_of c.args.site.design.now) (env_of c.args.site.at.now) (list_of c.args.cells.now) (query_task c.args.query) (map arg_of c.args.args.now) c.silent.result c.in-None.ensures c.silent.ensures

pub descriptor-requires-clause-expression : goal.descriptor-requires-clause-expression
descriptor-requires-clause-expression c =
    let names = names_of (flat_of c.args.site.design.now) in
    query-sound names c.args.query (exp_of c.in-Some.fd.now) (file-sound names (query_task c.args.query) (map arg_of c.args.args.now) (exp_of c.in-Some.fd.now) c.in-Some.ensures c.requires.sound)

pub returns-in_ok-slot-in-Some-clause-traps : goal.returns-in_ok-slot-in-Some-clause-traps
returns-in_ok-slot-in-Some-clause-traps c =
    let slot = c.in_ok-slot-in-Some in
    ok-gives c.given_file.result _ _
    (λ t e. rw (file-some (query_task c.args.query) (map arg_of c.args.args.now) (exp_of c.in-Some.fd.now) c.in-Some.ensures)
    (traps-query (flat_of c.args.site.design.now) (env_of c.args.site.at.now) (list_of c.args.cells.now) (list_of c.descriptor.new.cells) c.args.query (exp_of c.in-Some.fd.now) slot.slot c.call_of.result t slot.ensures.gives c.call_of.ensures e))
    c.given_file.ensures
