use Rattle.std.proofs.Common.{ap, ◌∙◌, sym, map}
use Rattle.vl_design.specs.Placed as p
use Rattle.vl_design.specs.Seen.{node_exp, row_args, arg}
use Rattle.vl_design.specs.declared.design.ExprNode.TheBlock as blk
use Rattle.vl_loops.specs.Placed.{exp_put, args_put}
use Rattle.vl_loops.specs.Rooms.{rows_of, values_of}
use Rattle.vl_unroll.specs.Listed.{put_of, args_with}
use Rattle.vl_unroll.proofs.Rows.{row_put, args_row_put, args-append, args-more}
use Rattle.vl_unroll.proofs.put.+put.Goals as goal

pub put-returns-in_ok-parts-in-Cat : goal.put-returns-in_ok-parts-in-Cat
put-returns-in_ok-parts-in-Cat t c =
    let rows = rows_of c.args.room.now in
    let values = values_of c.args.numbers.now in
    ap (p.Cat c.args.e.now.place) (row_put rows values c.in_ok-parts-in-Cat.parts c.in-Cat.parts (c.in_ok-parts-in-Cat.ensures ∙ ap (map (put_of rows values)) c.as_slice.ensures.value))
    ∙ sym (ap (λ n. exp_put rows values (node_exp c.args.e.now.place n)) c.in-Cat.is)

pub put-returns-in_ok-parts-in-Rep : goal.put-returns-in_ok-parts-in-Rep
put-returns-in_ok-parts-in-Rep t c =
    let rows = rows_of c.args.room.now in
    let values = values_of c.args.numbers.now in
    ap (p.Rep c.args.e.now.place c.in-Rep.count) (row_put rows values c.in_ok-parts-in-Rep.parts c.in-Rep.parts (c.in_ok-parts-in-Rep.ensures ∙ ap (map (put_of rows values)) c.as_slice-in-Rep.ensures.value))
    ∙ sym (ap (λ n. exp_put rows values (node_exp c.args.e.now.place n)) c.in-Rep.is)

pub put-returns-in_ok-arguments-in-Call : goal.put-returns-in_ok-arguments-in-Call
put-returns-in_ok-arguments-in-Call t c =
    let rows = rows_of c.args.room.now in
    let values = values_of c.args.numbers.now in
    ap (p.Call c.args.e.now.place c.in-Call.function) (row_put rows values c.in_ok-arguments-in-Call.arguments c.in-Call.arguments (c.in_ok-arguments-in-Call.ensures ∙ ap (map (put_of rows values)) c.as_slice-in-Call.ensures.value))
    ∙ sym (ap (λ n. exp_put rows values (node_exp c.args.e.now.place n)) c.in-Call.is)

pub put_args-loop-one-preserved : goal.put_args-loop-one-preserved
put_args-loop-one-preserved t c = λ o.
    let rows = rows_of c.args.room.now in
    let values = values_of c.args.numbers.now in
    ap (λ z. args_with z (args_put rows values o)) c.in_ok-push.ensures.items
    ∙ (args-append c.loop-one.all.items c.in_ok-put_arg.field-0 (args_put rows values o)
    ∙ (ap (args_with c.loop-one.all.items) (c.in_ok-put_arg.ensures o)
    ∙ (c.loop-one.invariant (arg c.one-item.result o)
    ∙ sym (ap (args_put rows values) (args-more c.args.given.now c.loop-one.one-index c.one-item.result o c.loop-one-test.true c.one-item.is)))))

pub put-returns-in_ok-name-in-Sys : goal.put-returns-in_ok-name-in-Sys
put-returns-in_ok-name-in-Sys t c =
    let rows = rows_of c.args.room.now in
    let values = values_of c.args.numbers.now in
    let at = c.args.e.now.place in
    let args = c.in_ok-args-in-Sys.args in
    let given = c.in-Sys.call.args in
    ap (λ z. p.Sys at z (row_args (blk.hidden-the_row-SysArg-1 args))) c.in_ok-name-in-Sys.ensures
    ∙ (ap (p.Sys at c.in-Sys.call.name) (args_row_put rows values args given (λ o. c.in_ok-args-in-Sys.ensures o ∙ ap (λ z. args_put rows values (args_with z o)) c.as_slice-in-Sys.ensures.value))
    ∙ sym (ap (λ n. exp_put rows values (node_exp at n)) c.in-Sys.is))
