use Rattle.std.proofs.Common.{◌≡◌, map, take}
use Rattle.elab_plain.specs.SeenItems.{seen_item}
use Rattle.elab_kinds.specs.Sized.{counts_of, kept, told, items_counts}
use Rattle.elab_kinds.proofs.sizes.items_counts.Given as goal

abbrev pub invariant-loop-item : goal.invariant-loop-item
invariant-loop-item l = counts_of l.all ≡ kept (items_counts (told l.index l.round) (counts_of l.fn.first) (map seen_item (take l.item-index l.items)))
