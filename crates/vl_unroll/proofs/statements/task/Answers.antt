use Rattle.std.proofs.Common.{ap, ◌∙◌}
use Rattle.vl_design.specs.Placed as p
use Rattle.vl_design.specs.Seen.{args_of}
use Rattle.vl_loops.specs.Placed.{args_put}
use Rattle.vl_loops.specs.Rooms.{rows_of, values_of}
use Rattle.vl_unroll.specs.Listed.{args_with}
use Rattle.vl_unroll.proofs.Rows.{args-put}
use Rattle.vl_unroll.proofs.statements.task.Goals as goal

pub returns : goal.returns
returns c =
    let rows = rows_of c.args.room.now in
    let values = values_of c.args.numbers.now in
    ap (λ z. p.Task c.args.place z (args_of c.in_ok-args.args.items)) c.in_ok-name.ensures
    ∙ ap (p.Task c.args.place c.args.call.now.name) (args-put rows values c.in_ok-args.args.items c.args.call.now.args.items (λ o. c.in_ok-args.ensures o ∙ ap (λ z. args_put rows values (args_with z o)) c.as_slice.ensures.value))
