use Rattle.std.proofs.Common.{◌≤◌, length, drop}
use Rattle.sub_nodes.specs.Code.{split_all}
use Rattle.sub_split.specs.Makes.{made_view, Makes}
use Rattle.sub_split.specs.Waves.{statements_of}
use Rattle.sub_split.proofs.waves.split_blocks.Given as goal

abbrev pub invariant-loop-left : goal.invariant-loop-left
invariant-loop-left l = record {
  within : l.left ≤ length l.processes;
  makes : Makes l.fn.nodes l.nodes l.before (split_all l.fn.nodes.from (statements_of l.wave (drop l.left l.processes)) (made_view l.fn.nodes l.fn.head));
}

abbrev pub decreases-loop-left : goal.decreases-loop-left
decreases-loop-left l = l.left
