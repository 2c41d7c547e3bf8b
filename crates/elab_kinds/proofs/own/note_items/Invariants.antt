use Rattle.std.proofs.Common.{◌≡◌, ◌+◌, map, drop}
use Rattle.std.specs.List.{flat_map}
use Rattle.indexmap.specs.IndexSet.{index_set_len}
use Rattle.elab_plain.specs.vl_flat.specs.Kinds.{signals_in}
use Rattle.elab_plain.specs.SeenItems.{seen_item}
use Rattle.elab_kinds.specs.Names.{has}
use Rattle.elab_kinds.specs.Sized.{count_new}
use Rattle.elab_kinds.proofs.own.note_items.Given as goal

abbrev pub invariant-loop-item : goal.invariant-loop-item
invariant-loop-item l =
    index_set_len l.known + count_new (has l.known) (flat_map signals_in (map seen_item (drop l.item-index l.items)))
    ≡ index_set_len l.initial.known + count_new (has l.initial.known) (flat_map signals_in (map seen_item l.items))
