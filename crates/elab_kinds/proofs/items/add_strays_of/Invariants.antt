use Rattle.std.proofs.Common.{take}
use Rattle.std.specs.List.{list_any}
use Rattle.elab_plain.specs.vl_flat.specs.Kinds.{item_strays}
use Rattle.elab_plain.specs.SeenItems.{seen_item}
use Rattle.elab_kinds.specs.Names.{nothing, Adds}
use Rattle.elab_kinds.proofs.items.add_strays_of.Given as goal

abbrev pub invariant-loop-item : goal.invariant-loop-item
invariant-loop-item l = Adds l.initial.names l.names nothing (λ t. list_any (λ a. item_strays t (seen_item a)) (take l.item-index l.items))
