use Rattle.std.proofs.Common.{ap, ◌∙◌}
use Rattle.vl_run.specs.Kinds.{kind_by}
use Rattle.vl_run.proofs.Tasking.{task-is}
use Rattle.vl_run.proofs.scope.Scope.task.Goals as goal

pub run_kind-requires-clause-sound : goal.run_kind-requires-clause-sound
run_kind-requires-clause-sound g c =
    let e = task-is c.args.path.now c.args.call.now.name c.args.call.now.args.items c.kind_of-kind.result c.as_slice-2.result.now
    (c.kind_of-kind.ensures ∙ ap kind_by c.as_slice.ensures) c.as_slice-2.ensures.value in
    rw e at c.requires.sound

pub returns-clause-does : goal.returns-clause-does
returns-clause-does g c =
    let e = task-is c.args.path.now c.args.call.now.name c.args.call.now.args.items c.kind_of-kind.result c.as_slice-2.result.now
    (c.kind_of-kind.ensures ∙ ap kind_by c.as_slice.ensures) c.as_slice-2.ensures.value in
    rw e c.run_kind.ensures.does
