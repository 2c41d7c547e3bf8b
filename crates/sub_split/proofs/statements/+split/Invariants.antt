use Rattle.std.proofs.Common.{◌≤◌, [], length, drop}
use Rattle.std.specs.Vec.Iter.{into_iter_items}
use Rattle.vl_design.specs.Trees.{then_of}
use Rattle.sub_nodes.specs.Code.{split}
use Rattle.sub_split.specs.Makes.{made_view, Splits}
use Rattle.sub_split.specs.Marks.{marks_of}
use Rattle.sub_split.proofs.Splitting.{Leads}
use Rattle.sub_split.proofs.statements.+split.Given as goal

abbrev pub invariant-split_list-loop-left : goal.invariant-split_list-loop-left
invariant-split_list-loop-left l = record {
  within : l.left ≤ length l.list;
  splits : Splits (into_iter_items l.fn.marks) (into_iter_items l.marks) (marks_of (then_of [] (drop l.left l.list))) l.fn.nodes l.nodes l.before (split l.fn.nodes.from (then_of l.path (drop l.left l.list)) (made_view l.fn.nodes l.fn.head));
}

abbrev pub decreases-split_list-loop-left : goal.decreases-split_list-loop-left
decreases-split_list-loop-left l = l.left

abbrev pub invariant-ways-loop-item : goal.invariant-ways-loop-item
invariant-ways-loop-item l = Leads l.path l.items l.item-index l.behind (into_iter_items l.fn.marks) (into_iter_items l.marks) l.fn.nodes l.nodes l.all.items
