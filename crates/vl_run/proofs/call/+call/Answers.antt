use Rattle.std.proofs.Common.{◌-◌, arith, get_or}
use Rattle.std.proofs.lemmas.Result.{IfOk-weaker}
use Rattle.vl_design.specs.Trees.{fun_of}
use Rattle.vl_eval.specs.Rooms.{names_of}
use Rattle.vl_run.proofs.Bodies.{inner-calls, call-gives, deep, less, function-there}
use Rattle.vl_run.proofs.Designs.{one-words}
use Rattle.vl_run.proofs.call.+call.Goals as goal

pub run_body-requires-clause-calls : goal.run_body-requires-clause-calls
run_body-requires-clause-calls t c =
    let room = c.args.room.now in
    let names = names_of room in
    let func = get_or room.funcs.now c.args.function c.index-room-number.result in
    let words = one-words names.rows room.signals.now room.funcs.now in
    inner-calls names (names_of c.inner.result) (fun_of func) c.args.files.now (c.args.depth - 1) _ _ c.inner.ensures c.requires.funs words
    (λ f args h. (less c.args.depth t c.if-depth-eq0.false c.decreases, (c.requires.funs, h)))
    (λ f args r h. h.1)

pub returns : goal.returns
returns t c =
    let room = c.args.room.now in
    let names = names_of room in
    let func = get_or room.funcs.now c.args.function c.index-room-number.result in
    let below = c.if-number-room.false in
    let at = function-there room.funcs.now c.args.function c.index-room-number.result (omega (arith, below)) in
    let given = rw c.deref.ensures.value at c.run_body.ensures in
    IfOk-weaker c.run_body.result _ _
    (λ v h. call-gives names (names_of c.inner.result) (fun_of func) c.args.files.now (c.args.depth - 1) c.args.depth c.args.function c.args.args.items v c.inner.ensures (deep c.args.depth c.if-depth-eq0.false) at h)
    given
