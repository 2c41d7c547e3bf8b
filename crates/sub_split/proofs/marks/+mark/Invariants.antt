use Rattle.std.proofs.Common.{◌≡◌, ◌≤◌, ◌++◌, [], false, length, drop}
use Rattle.std.specs.Prelude.{◌||◌}
use Rattle.vl_design.specs.Laws.{can_act}
use Rattle.vl_design.specs.Trees.{then_of}
use Rattle.sub_split.specs.Items.{items_of}
use Rattle.sub_split.specs.Marks.{marks_of, item_marks, others_act}
use Rattle.sub_split.proofs.marks.+mark.Given as goal

abbrev pub invariant-mark_list-loop-left : goal.invariant-mark_list-loop-left
invariant-mark_list-loop-left l = record {
  within : l.left ≤ length l.list;
  acts : l.acts ≡ can_act (then_of [] (drop l.left l.list));
  marks : l.all.items ≡ l.fn.all.items ++ marks_of (then_of [] (drop l.left l.list));
}

abbrev pub decreases-mark_list-loop-left : goal.decreases-mark_list-loop-left
decreases-mark_list-loop-left l = l.left

abbrev pub invariant-mark_items-loop-item : goal.invariant-mark_items-loop-item
invariant-mark_items-loop-item l = record {
  acts : (l.acts || others_act l.earlier (items_of [] (drop l.item-index l.items))) ≡ others_act false (items_of [] l.items);
  marks : l.all.items ++ item_marks (items_of [] (drop l.item-index l.items)) ≡ l.fn.all.items ++ item_marks (items_of [] l.items);
}
