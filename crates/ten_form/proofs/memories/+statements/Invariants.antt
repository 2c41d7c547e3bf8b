use Rattle.std.proofs.Common.{◌≡◌, [], drop}
use Rattle.std.specs.Prelude.{◌++◌}
use Rattle.cell_emit.specs.vl_sites.specs.Stored.{stored_words, items_stored, default_stored}
use Rattle.vl_design.specs.Trees.{then_of}
use Rattle.sub_split.specs.Items.{items_of}
use Rattle.ten_form.proofs.memories.+statements.Given as goal

abbrev pub invariant-statements-loop-a : goal.invariant-statements-loop-a
invariant-statements-loop-a l = l.memories.items ++ stored_words (then_of [] (drop l.a-index l.list)) ≡ l.initial.memories.items ++ stored_words (then_of [] l.list)

abbrev pub invariant-labelled-loop-item : goal.invariant-labelled-loop-item
invariant-labelled-loop-item l = l.memories.items ++ items_stored (items_of [] (drop l.item-index l.items)) ≡ l.initial.memories.items ++ items_stored (items_of [] l.items)

abbrev pub invariant-otherwise-loop-item : goal.invariant-otherwise-loop-item
invariant-otherwise-loop-item l = record {
  same : l.memories.items ≡ l.initial.memories.items;
  passed : default_stored (items_of [] (drop l.item-index l.items)) ≡ default_stored (items_of [] l.items);
}
