use Rattle.std.proofs.Common.{◌≡◌, ℕ, List, drop}
use Rattle.std.specs.Prelude.{◌||◌}
use Rattle.vl_design.specs.Laws.{can_act, items_can_act}
use Rattle.vl_design.specs.Trees.{then_of}
use Rattle.vl_run.specs.Cases.{items_of}
use Rattle.ten_zero.proofs.acts.+acts.Given as goal

-- some of those so far, or of the rest
abbrev pub invariant-some_acts-loop-item : goal.invariant-some_acts-loop-item
invariant-some_acts-loop-item l = (path : List ℕ) → (l.all || can_act (then_of path (drop l.item-index l.list))) ≡ can_act (then_of path l.list)

abbrev pub invariant-some_item_acts-loop-item : goal.invariant-some_item_acts-loop-item
invariant-some_item_acts-loop-item l = (path : List ℕ) → (l.all || items_can_act (items_of path (drop l.item-index l.items))) ≡ items_can_act (items_of path l.items)
