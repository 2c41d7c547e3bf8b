use Rattle.std.proofs.Common.{sym, subst}
use Rattle.std.proofs.lemmas.List.{length-map}
use Rattle.vl_design.specs.Trees.{fun_of}
use Rattle.vl_eval.specs.Rooms.{names_of}
use Rattle.vl_run.specs.Scopes.{Calls}
use Rattle.vl_run.proofs.Designs.{same-scope, outer-calls}
use Rattle.vl_run.proofs.outer.outermost.Goals as goal

pub returns-clause-scope : goal.returns-clause-scope
returns-clause-scope g c =
    let room = c.room_of-room.result in
    same-scope c.args.design.now c.args.files.now (names_of room) _ c.room_of-room.ensures.names (sym (length-map room.funcs.now fun_of))

pub returns-clause-calls : goal.returns-clause-calls
returns-clause-calls g c =
    let room = c.room_of-room.result in
    let pre = goal.F-pre g c.args.call in
    let post = goal.F-post g c.args.call in
    subst (λ s. Calls s pre post) (sym (same-scope c.args.design.now c.args.files.now (names_of room) _ c.room_of-room.ensures.names (sym (length-map room.funcs.now fun_of))))
    (outer-calls c.args.design.now c.args.files.now pre post c.requires.sound c.requires.callable c.requires.gives)
