use Rattle.std.proofs.Common.{refl, ap, sym, ◌∙◌, subst, ◌+◌, ◌-◌, ◌++◌, [], ◌∷◌, map, drop, arith}
use Rattle.std.specs.Prelude.{flat_map}
use Rattle.std.specs.Option.{option_map_or}
use Rattle.std.proofs.lemmas.List.{at_drop_more}
use Rattle.elab_plain.specs.vl_flat.specs.Environments as e
use Rattle.elab_plain.specs.vl_flat.specs.Environments.{module_named}
use Rattle.elab_plain.specs.vl_flat.specs.Flat as f
use Rattle.elab_plain.specs.SeenItems.{seen_item, seen_unit, seen_instances}
use Rattle.elab_kinds.specs.Sized.{counts_of}
use Rattle.elab_kinds.specs.Places.{IsPlaceOf}
use Rattle.vl_elab.specs.Standing.{seen_here}
use Rattle.vl_elab.specs.Growing.{Grows, Stops, Adds}
use Rattle.vl_elab.specs.Libraries.{modules_of, sizes_in, instance_in}
use Rattle.elab_plain.specs.vl_flat.specs.Connections as k
use Rattle.elab_plain.specs.vl_flat.specs.Functions.{dotted}
use Rattle.elab_constant.specs.Seen.{look}
use Rattle.elab_instance.specs.declared.given.Surroundings.{Surroundings}
use Rattle.elab_instance.proofs.Givens.{given-same}
use Rattle.vl_elab.proofs.Growth.{done-start, done-left, done-more, done-stops, done-last, grows-nothing, stops-left, handed-on}
use Rattle.vl_elab.specs.Insides.{IsInside, names_in, contents}
use Rattle.vl_elab.proofs.Levels.{no-level, one-level}
use Rattle.vl_elab.proofs.Joints.{is-joined}
use Rattle.vl_elab.proofs.Ours.{own-part, named-there}
use Rattle.vl_elab.proofs.instances.+instance.Goals as goal

-- ---- items

pub add_items-loop-item-preserved : goal.add_items-loop-item-preserved
add_items-loop-item-preserved t c = λ g same.
    let ms = modules_of c.args.library.now in
    let inner = instance_in c.args.library.now c.args.depth in
    let sizes = sizes_in c.args.library.now c.args.depth in
    let here = seen_here c.args.here in
    let item = c.item-item.result in
    let next = counts_of c.loop-item.next in
    let left = map seen_item (drop (c.loop-item.item-index + 1) c.args.items.now) in
    let now = done-left c.args.making.now c.loop-item.making _ _ _ (c.loop-item.invariant g same)
    (at_drop_more (λ z. f.items_parts inner sizes ms here g next (map seen_item z)) c.args.items.now c.loop-item.item-index item c.loop-item-test.true
    ∙ ap (λ y. f.items_parts inner sizes ms here g next (seen_item y ∷ left)) (sym c.item-item.is)) in
    done-left c.args.making.now c.add_parts.new.making _ _ _
    (done-more c.args.making.now c.loop-item.making c.add_parts.new.making _
    (f.item_parts inner sizes ms here g next (seen_item item))
    (f.items_parts inner sizes ms here g (f.behind_item sizes here next (seen_item item)) left)
    now (c.in_ok-next.ensures.adds g same))
    (sym (ap (λ n. f.items_parts inner sizes ms here g n left) c.in_ok-next.ensures.behind))

pub add_items-returns-in_err-next : goal.add_items-returns-in_err-next
add_items-returns-in_err-next t c = λ g same.
    let ms = modules_of c.args.library.now in
    let inner = instance_in c.args.library.now c.args.depth in
    let sizes = sizes_in c.args.library.now c.args.depth in
    let here = seen_here c.args.here in
    let item = c.item-item.result in
    let next = counts_of c.loop-item.next in
    let left = map seen_item (drop (c.loop-item.item-index + 1) c.args.items.now) in
    let stop = c.in_err-next.field-0.0 in
    let now = done-left c.args.making.now c.loop-item.making _ _ _ (c.loop-item.invariant g same)
    (at_drop_more (λ z. f.items_parts inner sizes ms here g next (map seen_item z)) c.args.items.now c.loop-item.item-index item c.loop-item-test.true
    ∙ ap (λ y. f.items_parts inner sizes ms here g next (seen_item y ∷ left)) (sym c.item-item.is)) in
    handed-on c.from_residual.result stop c.args.making.now _ _ c.from_residual.ensures (λ e h. h)
    (done-stops stop c.args.making.now c.loop-item.making _
    (f.item_parts inner sizes ms here g next (seen_item item))
    (f.items_parts inner sizes ms here g (f.behind_item sizes here next (seen_item item)) left)
    now (c.in_err-next.ensures.adds g same))

-- ---- units

pub add_units-loop-unit-preserved : goal.add_units-loop-unit-preserved
add_units-loop-unit-preserved t c = λ m there.
    let inner = instance_in c.args.library.now c.args.depth in
    let here = seen_here c.args.here in
    let us = seen_instances c.args.instances.now in
    let size = counts_of c.args.size in
    let unit = c.unit-item.result in
    let base = counts_of c.loop-unit.base in
    let units = c.as_slice-unit-items.result.now in
    let left = map seen_unit (drop (c.loop-unit.unit-index + 1) units) in
    let now = done-left c.args.making.now c.loop-unit.making _ _ _ (c.loop-unit.invariant m there)
    (at_drop_more (λ z. f.instances inner here base us m size (map seen_unit z)) units c.loop-unit.unit-index unit c.loop-unit-test.true
    ∙ ap (λ y. f.instances inner here base us m size (seen_unit y ∷ left)) (sym c.unit-item.is)) in
    done-left c.args.making.now c.add_instance.new.making _ _ _
    (done-more c.args.making.now c.loop-unit.making c.add_instance.new.making _
    (inner here base us (seen_unit unit) m) (f.instances inner here (e.plus base size) us m size left)
    now (c.in_ok-add_instance.ensures m there))
    (sym (ap (λ n. f.instances inner here n us m size left) c.in_ok-base.ensures))

pub add_units-returns-in_err-add_instance : goal.add_units-returns-in_err-add_instance
add_units-returns-in_err-add_instance t c = λ m there.
    let inner = instance_in c.args.library.now c.args.depth in
    let here = seen_here c.args.here in
    let us = seen_instances c.args.instances.now in
    let size = counts_of c.args.size in
    let unit = c.unit-item.result in
    let base = counts_of c.loop-unit.base in
    let units = c.as_slice-unit-items.result.now in
    let left = map seen_unit (drop (c.loop-unit.unit-index + 1) units) in
    let stop = c.in_err-add_instance.field-0.0 in
    let now = done-left c.args.making.now c.loop-unit.making _ _ _ (c.loop-unit.invariant m there)
    (at_drop_more (λ z. f.instances inner here base us m size (map seen_unit z)) units c.loop-unit.unit-index unit c.loop-unit-test.true
    ∙ ap (λ y. f.instances inner here base us m size (seen_unit y ∷ left)) (sym c.unit-item.is)) in
    subst (λ z. Adds c.args.making.now c.add_instance.new.making (f.instances inner here (counts_of c.args.next) us m size (map seen_unit z)) c.from_residual.result) c.as_slice-unit-items.ensures.value
    (handed-on c.from_residual.result stop c.args.making.now _ _ c.from_residual.ensures (λ e h. h)
    (done-stops stop c.args.making.now c.loop-unit.making _
    (inner here base us (seen_unit unit) m) (f.instances inner here (e.plus base size) us m size left)
    now (c.in_err-add_instance.ensures m there)))

-- ---- an instance

pub add_instance-returns-then-depth-eq0 : goal.add_instance-returns-then-depth-eq0
add_instance-returns-then-depth-eq0 t c = λ m there.
    subst (Grows c.args.making.now c.args.making.now)
    (sym (no-level (sizes_in c.args.library.now) c.args.depth (modules_of c.args.library.now) (seen_here c.args.above) (counts_of c.args.base) (seen_instances c.args.instances.now) (seen_unit c.args.unit.now) m c.if-depth-eq0.true))
    (grows-nothing c.args.making.now)

pub add_instance-returns-in_err-begin : goal.add_instance-returns-in_err-begin
add_instance-returns-in_err-begin t c = λ m there.
    let ms = modules_of c.args.library.now in
    let here = seen_here c.args.above in
    let us = seen_instances c.args.instances.now in
    let u = seen_unit c.args.unit.now in
    let base = counts_of c.args.base in
    let g = k.given here base us u m in
    let at-path = sym (c.as_slice-2.ensures ∙ (c.in_ok-path.ensures ∙ ap (dotted here.path) c.as_slice.ensures)) in
    let stop = c.in_err-begin.field-0.0 in
    handed-on c.from_residual-in_err-begin.result stop c.args.making.now _ _ c.from_residual-in_err-begin.ensures (λ e h. h)
    (subst (Stops stop c.args.making.now.totals) (sym (one-level (sizes_in c.args.library.now) c.args.depth ms here base us u m c.if-depth-eq0.false))
    (stops-left stop c.args.making.now.totals (f.beginning here.env g us ∷ []) _ (c.in_err-begin.ensures g at-path)))

pub add_instance-returns : goal.add_instance-returns
add_instance-returns t c = λ m there.
    let ms = modules_of c.args.library.now in
    let here = seen_here c.args.above in
    let us = seen_instances c.args.instances.now in
    let u = seen_unit c.args.unit.now in
    let base = counts_of c.args.base in
    let g = k.given here base us u m in
    let named = c.in_ok-path.ensures ∙ ap (dotted here.path) c.as_slice.ensures in
    let beg = f.beginning here.env g us ∷ [] in
    let rest = contents (sizes_in c.args.library.now) (c.args.depth - 1) ms here base us u m in
    let begun = done-more c.args.making.now c.args.making.now c.begin.new.making (beg ++ rest) beg rest
    (done-start c.args.making.now (beg ++ rest)) (c.in_ok-begin.ensures g (sym (c.as_slice-2.ensures ∙ named))) in
    subst (λ z. Adds c.args.making.now c.add_inside.new.making z c.add_inside.result) (sym (one-level (sizes_in c.args.library.now) c.args.depth ms here base us u m c.if-depth-eq0.false))
    (done-last c.args.making.now c.begin.new.making c.add_inside.new.making (beg ++ rest) rest c.add_inside.result begun (c.add_inside.ensures m there (c.as_slice-3.ensures ∙ named)))

pub add_inside-returns : goal.add_inside-returns
add_inside-returns t c = λ m there named.
    let inside = subst (λ a. IsInside a (sizes_in c.args.library.now) c.args.depth (seen_here c.args.above) (counts_of c.args.base) (seen_instances c.args.instances.now) (seen_unit c.args.unit.now) m) (sym c.deref.ensures) (c.in_ok-inside.ensures m there) in
    c.add_contents.ensures m (seen_instances c.args.instances.now) there named inside

-- ---- what stands in an instance

pub add_contents-returns-in_err-add_inputs : goal.add_contents-returns-in_err-add_inputs
add_contents-returns-in_err-add_inputs t c = λ m us there named known.
    let ms = modules_of c.args.library.now in
    let is = c.definition_at-definition.ensures m there in
    let here = seen_here c.args.above in
    let u = seen_unit c.args.unit.now in
    let base = counts_of c.args.base in
    let n = c.args.depth in
    let own = look c.args.inside.now.names in
    let env = names_in (sizes_in c.args.library.now) n here base us u m in
    let ins = flat_map (λ t. f.input_part here env m u t.name) m.ports in
    let bod = f.body (instance_in c.args.library.now n) (sizes_in c.args.library.now n) ms here.behind env (k.given here base us u m) m in
    let outs = flat_map (λ t. f.output_part here env m u t.name) m.ports in
    let facts-are = c.roles_at-roles.ensures m there in
    let stop = c.in_err-add_inputs.field-0.0 in
    let ports = ap (λ z. flat_map (λ t. f.input_part here own m u t.name) z) (c.as_slice.ensures.value ∙ ap (λ z. z.ports) is)
    ∙ ap (λ z. flat_map (λ t. f.input_part here z m u t.name) m.ports) known.names in
    handed-on c.from_residual.result stop c.args.making.now _ _ c.from_residual.ensures (λ e h. h)
    (stops-left stop c.args.making.now.totals ins (bod ++ outs)
    (subst (Stops stop c.args.making.now.totals) ports (c.in_err-add_inputs.ensures m (is-joined facts-are known.ports))))

pub add_contents-returns-in_err-add_items : goal.add_contents-returns-in_err-add_items
add_contents-returns-in_err-add_items t c = λ m us there named known.
    let ms = modules_of c.args.library.now in
    let is = c.definition_at-definition.ensures m there in
    let here = seen_here c.args.above in
    let u = seen_unit c.args.unit.now in
    let base = counts_of c.args.base in
    let n = c.args.depth in
    let own = look c.args.inside.now.names in
    let env = names_in (sizes_in c.args.library.now) n here base us u m in
    let g = k.given here base us u m in
    let ins = flat_map (λ t. f.input_part here env m u t.name) m.ports in
    let bod = f.body (instance_in c.args.library.now n) (sizes_in c.args.library.now n) ms here.behind env g m in
    let outs = flat_map (λ t. f.output_part here env m u t.name) m.ports in
    let whole = ins ++ (bod ++ outs) in
    let facts-are = c.roles_at-roles.ensures m there in
    let ports = ap (λ z. flat_map (λ t. f.input_part here own m u t.name) z) (c.as_slice.ensures.value ∙ ap (λ z. z.ports) is)
    ∙ ap (λ z. flat_map (λ t. f.input_part here z m u t.name) m.ports) known.names in
    let entered = done-more c.args.making.now c.args.making.now c.add_inputs.new.making whole ins (bod ++ outs)
    (done-start c.args.making.now whole) (subst (Grows c.args.making.now c.add_inputs.new.making) ports (c.in_ok-add_inputs.ensures m (is-joined facts-are known.ports))) in
    let around : Surroundings = record {
      names = c.args.above.names;
      overrides = record { ref_ptr = c.args.unit.ref_ptr; now = c.args.inside.now.overrides };
      ports = record { ref_ptr = c.args.unit.ref_ptr; now = c.args.inside.now.ports };
    } in
    let same = ap (λ z. z.overrides) (sym (given-same here base us u m around refl known.overrides known.ports)) in
    let parts = f.items_parts (instance_in c.args.library.now n) (sizes_in c.args.library.now n) ms in
    let items = ap (λ z. parts (record { env = z; path = c.args.path.now; behind = here.behind }) g base (map seen_item c.as_slice-2.result.now)) known.names
    ∙ (ap (λ z. parts (record { env = env; path = z; behind = here.behind }) g base (map seen_item c.as_slice-2.result.now)) named
    ∙ ap (λ z. parts (record { env = env; path = g.path; behind = here.behind }) g base z) (ap (map seen_item) c.as_slice-2.ensures.value ∙ ap (λ z. z.items) is)) in
    let stop = c.in_err-add_items.field-0.0 in
    handed-on c.from_residual-in_err-add_items.result stop c.args.making.now _ _ c.from_residual-in_err-add_items.ensures (λ e h. h)
    (done-stops stop c.args.making.now c.add_inputs.new.making whole bod outs entered
    (subst (Stops stop c.add_inputs.new.making.totals) items (c.in_err-add_items.ensures g same)))

pub add_contents-returns : goal.add_contents-returns
add_contents-returns t c = λ m us there named known.
    let ms = modules_of c.args.library.now in
    let is = c.definition_at-definition.ensures m there in
    let here = seen_here c.args.above in
    let u = seen_unit c.args.unit.now in
    let base = counts_of c.args.base in
    let n = c.args.depth in
    let own = look c.args.inside.now.names in
    let env = names_in (sizes_in c.args.library.now) n here base us u m in
    let g = k.given here base us u m in
    let ins = flat_map (λ t. f.input_part here env m u t.name) m.ports in
    let bod = f.body (instance_in c.args.library.now n) (sizes_in c.args.library.now n) ms here.behind env g m in
    let outs = flat_map (λ t. f.output_part here env m u t.name) m.ports in
    let whole = ins ++ (bod ++ outs) in
    let facts-are = c.roles_at-roles.ensures m there in
    let ports = ap (λ z. flat_map (λ t. f.input_part here own m u t.name) z) (c.as_slice.ensures.value ∙ ap (λ z. z.ports) is)
    ∙ ap (λ z. flat_map (λ t. f.input_part here z m u t.name) m.ports) known.names in
    let entered = done-more c.args.making.now c.args.making.now c.add_inputs.new.making whole ins (bod ++ outs)
    (done-start c.args.making.now whole) (subst (Grows c.args.making.now c.add_inputs.new.making) ports (c.in_ok-add_inputs.ensures m (is-joined facts-are known.ports))) in
    let around : Surroundings = record {
      names = c.args.above.names;
      overrides = record { ref_ptr = c.args.unit.ref_ptr; now = c.args.inside.now.overrides };
      ports = record { ref_ptr = c.args.unit.ref_ptr; now = c.args.inside.now.ports };
    } in
    let same = ap (λ z. z.overrides) (sym (given-same here base us u m around refl known.overrides known.ports)) in
    let parts = f.items_parts (instance_in c.args.library.now n) (sizes_in c.args.library.now n) ms in
    let items = ap (λ z. parts (record { env = z; path = c.args.path.now; behind = here.behind }) g base (map seen_item c.as_slice-2.result.now)) known.names
    ∙ (ap (λ z. parts (record { env = env; path = z; behind = here.behind }) g base (map seen_item c.as_slice-2.result.now)) named
    ∙ ap (λ z. parts (record { env = env; path = g.path; behind = here.behind }) g base z) (ap (map seen_item) c.as_slice-2.ensures.value ∙ ap (λ z. z.items) is)) in
    let filled = done-more c.args.making.now c.add_inputs.new.making c.add_items.new.making whole bod outs
    entered (subst (Grows c.add_inputs.new.making c.add_items.new.making) items (c.in_ok-add_items.ensures g same)) in
    let left = ap (λ z. flat_map (λ t. f.output_part here own m u t.name) z) (c.as_slice-3.ensures.value ∙ ap (λ z. z.ports) is)
    ∙ ap (λ z. flat_map (λ t. f.output_part here z m u t.name) m.ports) known.names in
    done-last c.args.making.now c.add_items.new.making c.add_outputs.new.making whole outs c.add_outputs.result filled
    (subst (λ z. Adds c.add_items.new.making c.add_outputs.new.making z c.add_outputs.result) left (c.add_outputs.ensures m (is-joined facts-are known.ports)))

pub add_instances-returns-in_ok-size-in-Some : goal.add_instances-returns-in_ok-size-in-Some
add_instances-returns-in_ok-size-in-Some t c = λ g.
    let ms = modules_of c.args.library.now in
    let inner = instance_in c.args.library.now c.args.depth in
    let sizes = sizes_in c.args.library.now c.args.depth in
    let here = seen_here c.args.here in
    let us = seen_instances c.args.instances.now in
    let next = counts_of c.args.next in
    let place = subst (IsPlaceOf ms c.as_slice-name.result.now) c.in-Some.is (c.module_at.ensures.module ms c.requires.library.index) in
    let there = named-there ms c.as_slice-name.result.now c.in-Some.number place in
    let called = ap (λ t. module_named ms t) (sym c.as_slice-name.ensures) ∙ there.named in
    let size = c.in_ok-size-in-Some.ensures (sizes_in c.args.library.now) c.requires.library.sizes (omega (arith, c.requires.depth)) ∙ ap sizes c.as_slice-name.ensures in
    subst (λ o. Adds c.args.making.now c.add_units.new.making (option_map_or (λ m. f.instances inner here next us m (sizes us.definition) us.units) o []) c.add_units.result) (sym called)
    (subst (λ z. Adds c.args.making.now c.add_units.new.making (f.instances inner here next us there.found z us.units) c.add_units.result) size
    (c.add_units.ensures there.found there.at))

-- ---- an item

pub add_parts-returns-in_err-add_instances-in-Some-clause-adds : goal.add_parts-returns-in_err-add_instances-in-Some-clause-adds
add_parts-returns-in_err-add_instances-in-Some-clause-adds t c = λ g same.
    let ms = modules_of c.args.library.now in
    let inner = instance_in c.args.library.now c.args.depth in
    let sizes = sizes_in c.args.library.now c.args.depth in
    let here = seen_here c.args.here in
    let next = counts_of c.args.next in
    let stop = c.in_err-add_instances-in-Some.field-0.0 in
    subst (λ z. Adds c.args.making.now c.add_instances.new.making (f.item_parts inner sizes ms here g next z) c.from_residual.result) (sym (ap seen_item c.in-Some.ensures.some))
    (handed-on c.from_residual.result stop c.args.making.now _ _ c.from_residual.ensures (λ e h. h) (c.in_err-add_instances-in-Some.ensures g))

pub add_parts-returns-in_ok-behind_instances-in-Some-clause-adds : goal.add_parts-returns-in_ok-behind_instances-in-Some-clause-adds
add_parts-returns-in_ok-behind_instances-in-Some-clause-adds t c = λ g same.
    let ms = modules_of c.args.library.now in
    let inner = instance_in c.args.library.now c.args.depth in
    let sizes = sizes_in c.args.library.now c.args.depth in
    let here = seen_here c.args.here in
    let next = counts_of c.args.next in
    subst (λ z. Grows c.args.making.now c.add_instances.new.making (f.item_parts inner sizes ms here g next z)) (sym (ap seen_item c.in-Some.ensures.some))
    (c.in_ok-add_instances-in-Some.ensures g)

pub add_parts-returns-in-None-clause-adds : goal.add_parts-returns-in-None-clause-adds
add_parts-returns-in-None-clause-adds t c = λ g same.
    let ms = modules_of c.args.library.now in
    let inner = instance_in c.args.library.now c.args.depth in
    let sizes = sizes_in c.args.library.now c.args.depth in
    let here = seen_here c.args.here in
    let next = counts_of c.args.next in
    subst (λ z. Adds c.args.making.now c.add_own.new.making z c.add_own.result) (sym (own-part inner sizes ms here g next (seen_item c.args.item.now) c.in-None.ensures.none))
    (c.add_own.ensures.adds g same)
