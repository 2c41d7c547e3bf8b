use Rattle.std.proofs.Common.{◌≡◌, ◌≤◌, ℕ, List, map, take}
use Rattle.std.specs.Prelude.{fold}
use Rattle.elab_plain.specs.vl_flat.specs.Items as x
use Rattle.elab_plain.specs.vl_flat.specs.Environments as e
use Rattle.elab_plain.specs.SeenItems.{seen_item, seen_module}
use Rattle.elab_kinds.specs.Facts.{facts, facts_of}
use Rattle.elab_kinds.specs.Sized.{Tells, size_of}
use Rattle.elab_instance.specs.Given.{given_of, overrides_of}
use Rattle.elab_instance.specs.Known.{counts_of, kinds_by, known, nothing_known, with_item}
use Rattle.elab_instance.proofs.environment.environment.Given as goal

abbrev pub invariant-loop-item : goal.invariant-loop-item
invariant-loop-item l =
    (known l.names l.next ≡ fold (with_item (size_of l.sizes l.depth) (overrides_of l.above) (kinds_by (facts_of l.roles) l.above)) (nothing_known l.fn.base) (map seen_item (take l.item-index l.item-items)))
    × ((told : ℕ → List ℕ → e.Counts) (path : List ℕ) → Tells l.sizes told → l.depth ≤ 129 → facts_of l.roles ≡ facts (seen_module l.definition)
    → known l.names l.next ≡ fold (e.with_item (told l.depth) (given_of (seen_module l.definition) l.above path (counts_of l.fn.base)) (seen_module l.definition)) (nothing_known l.fn.base) (map seen_item (take l.item-index l.item-items)))
