use Rattle.std.proofs.Common.{ap, ◌∙◌, sym, map}
use Rattle.vl_design.specs.Placed as p
use Rattle.vl_design.specs.Seen.{node_target}
use Rattle.vl_loops.specs.Placed.{target_put}
use Rattle.vl_loops.specs.Rooms.{rows_of, values_of}
use Rattle.vl_unroll.specs.Listed.{target_put_of}
use Rattle.vl_unroll.proofs.Lists.{parts-put}
use Rattle.vl_unroll.proofs.targets.+target.Goals as goal

pub put_target-returns-in_ok-parts-in-List : goal.put_target-returns-in_ok-parts-in-List
put_target-returns-in_ok-parts-in-List t c =
    let rows = rows_of c.args.room.now in
    let values = values_of c.args.numbers.now in
    ap (p.Several c.args.t.now.place) (parts-put rows values c.in_ok-parts-in-List.parts c.in-List.parts (c.in_ok-parts-in-List.ensures ∙ ap (map (target_put_of rows values)) c.as_slice.ensures.value))
    ∙ sym (ap (λ n. target_put rows values (node_target c.args.t.now.place n)) c.in-List.is)
