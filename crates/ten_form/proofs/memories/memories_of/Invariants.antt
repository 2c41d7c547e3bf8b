use Rattle.std.proofs.Common.{◌≡◌, ◌≤◌, drop, length}
use Rattle.std.specs.Prelude.{map}
use Rattle.sub_split.specs.Views.{node_view}
use Rattle.ten_form.specs.Stores.{words_down}
use Rattle.ten_form.proofs.memories.memories_of.Given as goal

abbrev pub invariant-loop-left : goal.invariant-loop-left
invariant-loop-left l = record {
  within : l.left ≤ length l.nodes;
  made : l.memories.items ≡ words_down (map node_view (drop l.left l.nodes));
}

abbrev pub decreases-loop-left : goal.decreases-loop-left
decreases-loop-left l = l.left
