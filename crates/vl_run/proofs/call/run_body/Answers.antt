use Rattle.std.proofs.Common.{refl, ap, ◌∙◌}
use Rattle.vl_design.specs.Functions.{with_inputs, zeros}
use Rattle.vl_design.specs.Trees.{fun_of}
use Rattle.vl_design.specs.Value.{value_of}
use Rattle.vl_eval.specs.Rooms.{names_of}
use Rattle.vl_run.specs.Scopes.{scope_of}
use Rattle.vl_run.proofs.Bodies.{begins, begins-fine, body-gives}
use Rattle.vl_run.proofs.call.run_body.Goals as goal

pub exec-requires-clause-machine : goal.exec-requires-clause-machine
exec-requires-clause-machine g c =
    let room = c.args.scope.now.room in
    let names = names_of room in
    let func = fun_of c.args.func.now in
    let fine = begins-fine room.signals.now room.locals.now names func c.args.args.now refl c.requires.inside c.requires.sound c.requires.fit in
    begins names c.in_ok-m.m (with_inputs func.inputs c.args.args.now (zeros names.rows)) c.in_ok-m.ensures.state c.in_ok-m.ensures.later fine

pub returns : goal.returns
returns g c =
    let scope = scope_of c.args.scope.now in
    c.value_of.ensures ∙ ap (λ vs. value_of vs c.args.func.now.result) c.deref.ensures.value ∙ body-gives scope (fun_of c.args.func.now) c.args.args.now c.in_ok-m.m c.exec.new.m c.requires.inside c.in_ok-m.ensures.state c.in_ok-exec.ensures.does
