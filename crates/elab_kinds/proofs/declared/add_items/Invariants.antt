use Rattle.std.proofs.Common.{◌≡◌, take}
use Rattle.std.specs.List.{flat_map}
use Rattle.elab_plain.specs.vl_flat.specs.Kinds.{signals_in}
use Rattle.elab_plain.specs.SeenItems.{seen_item}
use Rattle.elab_kinds.specs.Said.{either, said, declaration_at}
use Rattle.elab_kinds.proofs.declared.add_items.Given as goal

abbrev pub invariant-loop-item : goal.invariant-loop-item
invariant-loop-item l = declaration_at l.declared ≡ (λ t. either (declaration_at l.initial.declared t) (said (flat_map (λ a. signals_in (seen_item a)) (take l.item-index l.items)) t))
