use Rattle.std.proofs.Common.{◌≡◌, ◌<◌, length, false, sym, ◌∙◌, arith}
use Rattle.vl_names.specs.Walks.{is_unmarked}
use Rattle.vl_names.proofs.Unmarked.{first_from-next}
use Rattle.vl_names.proofs.tops.first_unmarked.Goals as goal

pub loop-node-preserved : goal.loop-node-preserved
loop-node-preserved c =
    let marks = c.args.marks.now in
    let node = c.loop-node.node in
    let below : node < length marks = omega arith in
    let marked : is_unmarked marks node ≡ false = sym c.is_unmarked.ensures ∙ c.if-is_unmarked.false in
    sym (first_from-next (is_unmarked marks) node (length marks) below marked) ∙ c.loop-node.invariant
