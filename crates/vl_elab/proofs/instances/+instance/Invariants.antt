use Rattle.std.proofs.Common.{◌≡◌, ◌+◌, ◌*◌, map, drop}
use Rattle.std.specs.Prelude.{Some, slice_get}
use Rattle.elab_plain.specs.vl_flat.specs.Items as x
use Rattle.elab_plain.specs.vl_flat.specs.Environments as e
use Rattle.elab_plain.specs.vl_flat.specs.Flat as f
use Rattle.elab_plain.specs.SeenItems.{seen_item, seen_unit, seen_instances}
use Rattle.elab_kinds.specs.Sized.{counts_of}
use Rattle.elab_instance.specs.Given.{overrides_of}
use Rattle.vl_elab.specs.Standing.{seen_here}
use Rattle.vl_elab.specs.Libraries.{modules_of, sizes_in, instance_in}
use Rattle.vl_elab.proofs.Growth.{Done}
use Rattle.vl_elab.proofs.instances.+instance.Given as goal

abbrev pub decreases-add_instance : goal.decreases-add_instance
decreases-add_instance l = 8 * l.depth

abbrev pub decreases-add_units : goal.decreases-add_units
decreases-add_units l = 8 * l.depth + 1

abbrev pub decreases-add_instances : goal.decreases-add_instances
decreases-add_instances l = 8 * l.depth + 2

abbrev pub decreases-add_parts : goal.decreases-add_parts
decreases-add_parts l = 8 * l.depth + 3

abbrev pub decreases-add_items : goal.decreases-add_items
decreases-add_items l = 8 * l.depth + 4

abbrev pub decreases-add_contents : goal.decreases-add_contents
decreases-add_contents l = 8 * l.depth + 5

abbrev pub decreases-add_inside : goal.decreases-add_inside
decreases-add_inside l = 8 * l.depth + 6

abbrev pub invariant-add_items-loop-item : goal.invariant-add_items-loop-item
invariant-add_items-loop-item l = (g : e.Given) → g.overrides ≡ overrides_of l.above →
    Done l.initial.making l.making
    (f.items_parts (instance_in l.library l.depth) (sizes_in l.library l.depth) (modules_of l.library) (seen_here l.here) g (counts_of l.fn.base) (map seen_item l.items))
    (f.items_parts (instance_in l.library l.depth) (sizes_in l.library l.depth) (modules_of l.library) (seen_here l.here) g (counts_of l.next) (map seen_item (drop l.item-index l.items)))

abbrev pub invariant-add_units-loop-unit : goal.invariant-add_units-loop-unit
invariant-add_units-loop-unit l = (m : x.Module) → slice_get (modules_of l.library) l.number ≡ Some m →
    Done l.initial.making l.making
    (f.instances (instance_in l.library l.depth) (seen_here l.here) (counts_of l.fn.next) (seen_instances l.instances) m (counts_of l.size) (map seen_unit l.unit-items))
    (f.instances (instance_in l.library l.depth) (seen_here l.here) (counts_of l.base) (seen_instances l.instances) m (counts_of l.size) (map seen_unit (drop l.unit-index l.unit-items)))
