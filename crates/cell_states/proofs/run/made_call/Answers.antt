use Rattle.std.proofs.Common.{◌+◌, ◌<◌, ◌^◌, List, length, map, drop, sym, ap, ◌∙◌, arith, subst}
use Rattle.std.specs.Prelude.{All}
use Rattle.std.specs.List.{AllByRecursion}
use Rattle.std.proofs.lemmas.List.Elements.{recursion_from_All}
use Rattle.vl_design.specs.vl_base.specs.declared.files.File.{File}
use Rattle.vl_design.specs.Functions.{scope_of}
use Rattle.vl_design.specs.Sound.{IsMemory}
use Rattle.vl_design.specs.Trees.{flat_of}
use Rattle.vl_design.specs.Width.{names_of}
use Rattle.cell_emit.specs.cell_form.specs.Views.{list_of}
use Rattle.cell_emit.specs.Slots.{Nothing}
use Rattle.cell_emit.proofs.Frames.{longer-same, longer-grows}
use Rattle.cell_emit.specs.Envs.{env_of, HasMemories}
use Rattle.cell_emit.proofs.Staying.{fits-stays, stands-stays}
use Rattle.cell_emit.specs.Pendings.{slots_of}
use Rattle.cell_calls.specs.Counts.{asked_count}
use Rattle.cell_expr.specs.Compiled.{Holds}
use Rattle.cell_expr.specs.Counts.{body_cells}
use Rattle.cell_expr.proofs.Holding.{holds-then}
use Rattle.cell_calls.specs.Next.{next_node}
use Rattle.cell_waves.proofs.Lengths.{longer-few}
use Rattle.cell_calls.proofs.Nexting.{holds-number}
use Rattle.ten_form.specs.sub_nodes.specs.Nodes as n
use Rattle.ten_form.specs.sub_split.specs.Views.{call_view, segment_view}
use Rattle.ten_form.specs.declared.store.Store.{Store}
use Rattle.ten_form.specs.Holding.{mask_register}
use Rattle.cell_waves.specs.Keeping.{Keeps}
use Rattle.cell_states.proofs.Making.{starts-same, is-made, asks-behind}
use Rattle.cell_states.proofs.Asking.{slots-there}
use Rattle.cell_states.proofs.Storing.{few-above}
use Rattle.cell_states.proofs.run.made_call.Goals as goal

pub up_to_segment-requires-clause-few : goal.up_to_segment-requires-clause-few
up_to_segment-requires-clause-few c =
    let d = flat_of c.args.design.now in
    let number = c.requires.stores.0 in
    let kept = c.requires.stores.1 in
    let F : List Store → Type 0 = λ xs. All (λ s. mask_register s < 2 ^ 32) xs in
    subst F (sym kept.above) (few-above d number (n.Run (segment_view c.args.segment.now) (n.Go c.args.trap)) kept.there (subst F kept.all c.requires.few))

pub call_of-requires-clause-fits : goal.call_of-requires-clause-fits
call_of-requires-clause-fits c =
    let st = c.in_ok-earlier.ensures.starts c.requires.stores.0 c.requires.stores.1.above in
    fits-stays (names_of (flat_of c.args.design.now)) (list_of c.up_to_segment.new.cells) (list_of c.number.new.cells) (env_of c.in_ok-earlier.field-0.after.at) c.in_ok-next.ensures.grows st.does.fits

pub call_of-requires-clause-first : goal.call_of-requires-clause-first
call_of-requires-clause-first c =
    let st = c.in_ok-earlier.ensures.starts c.requires.stores.0 c.requires.stores.1.above in
    st.does.first ∙ st.begins.first

pub writes-requires-clause-same : goal.writes-requires-clause-same
writes-requires-clause-same c =
    let d = flat_of c.args.design.now in
    let number = c.requires.stores.0 in
    let kept = c.requires.stores.1 in
    let x = c.in_ok-earlier.field-0 in
    ap (map (λ (s : Store). s.memory)) kept.all
    ∙ starts-same d c.args.base.now.order.now number (segment_view c.args.segment.now) (n.Go c.args.trap) (list_of c.up_to_segment.new.cells) (env_of c.args.base.now.begun.at) (env_of x.after.at) (slots_of c.args.base.now.begun.pending) (slots_of x.after.pending) x.earlier.items x.ticks kept.there
    (c.in_ok-earlier.ensures.starts number kept.above)

pub returns-clause-made : goal.returns-clause-made
returns-clause-made c number kept =
    let d = flat_of c.args.design.now in
    let names = names_of d in
    let x = c.in_ok-earlier.field-0 in
    let st = c.in_ok-earlier.ensures.starts number kept.above in
    let l2 = list_of c.up_to_segment.new.cells in
    let l3 = list_of c.number.new.cells in
    let l4 = list_of c.call_of.new.cells in
    let at = env_of x.after.at in
    let task = call_view c.args.path.now c.args.call.now in
    let m = asked_count (body_cells d) task in
    let asks = c.in_ok-asked.ensures.traps.asks in
    let num = c.in_ok-next.ensures.gives in
    let goes : (files : List File) → Holds names (1 + m) at l2 l4 c.in_ok-next.next 32 (λ y. next_node (scope_of d files) y (n.Go c.args.trap)) =
    λ files. holds-then names at 1 m l2 l3 l4 c.in_ok-next.next 32 (λ y. c.args.trap) asks.longer
    (holds-number names at 0 c.args.trap l2 l2 l3 c.in_ok-next.next st.does.fits (longer-same (HasMemories names at) l2) num) in
    let end = rw c.as_slice.ensures.value at c.in_ok-sets.ensures in
    let g = segment_view c.args.segment.now in
    let on = n.Go c.args.trap in
    let sets = c.in_ok-sets.sets.items in
    let Above : List Store → Type 0 = λ xs. AllByRecursion (λ (s : Store). IsMemory (names_of d) s.memory) xs in
    is-made d c.args.base.now.order.now c.args.delayed.now c.requires.delayed number g on st.first st.second l2 l4 (env_of c.args.base.now.begun.at) at (slots_of c.args.base.now.begun.pending) (slots_of x.after.pending) x.earlier.items x.ticks c.in_ok-next.next (1 + m)
    end.before sets st.begins st.reads st.does goes end.end end.count end.few end.same (subst (λ xs. Keeps (drop end.count xs) (drop end.count (slots_of x.after.pending).sites) end.before sets) kept.all end.keeps)
    (starts-same d c.args.base.now.order.now number g on l2 (env_of c.args.base.now.begun.at) at (slots_of c.args.base.now.begun.pending) (slots_of x.after.pending) x.earlier.items x.ticks kept.there st)
    (subst Above kept.above (recursion_from_All (λ (s : Store). IsMemory (names_of d) s.memory) c.args.kept.above.now c.requires.memories)) c.requires.design.alone

pub returns-clause-asks : goal.returns-clause-asks
returns-clause-asks c number kept =
    let d = flat_of c.args.design.now in
    let names = names_of d in
    let x = c.in_ok-earlier.field-0 in
    let st = c.in_ok-earlier.ensures.starts number kept.above in
    let l2 = list_of c.up_to_segment.new.cells in
    let l3 = list_of c.number.new.cells in
    let l4 = list_of c.call_of.new.cells in
    let at = env_of x.after.at in
    let task = call_view c.args.path.now c.args.call.now in
    let m = asked_count (body_cells d) task in
    let asks = c.in_ok-asked.ensures.traps.asks in
    let num = c.in_ok-next.ensures.gives in
    let goes : (files : List File) → Holds names (1 + m) at l2 l4 c.in_ok-next.next 32 (λ y. next_node (scope_of d files) y (n.Go c.args.trap)) =
    λ files. holds-then names at 1 m l2 l3 l4 c.in_ok-next.next 32 (λ y. c.args.trap) asks.longer
    (holds-number names at 0 c.args.trap l2 l2 l3 c.in_ok-next.next st.does.fits (longer-same (HasMemories names at) l2) num) in
    let end = rw c.as_slice.ensures.value at c.in_ok-sets.ensures in
    let g = segment_view c.args.segment.now in
    let on = n.Go c.args.trap in
    let sets = c.in_ok-sets.sets.items in
    let Above : List Store → Type 0 = λ xs. AllByRecursion (λ (s : Store). IsMemory (names_of d) s.memory) xs in
    let g23 = longer-grows Nothing 1 l2 l3 num.longer in
    asks-behind d c.args.base.now.order.now c.args.delayed.now c.requires.delayed number g on st.first st.second l2 l4 (env_of c.args.base.now.begun.at) at (slots_of c.args.base.now.begun.pending) (slots_of x.after.pending) x.earlier.items x.ticks c.in_ok-next.next (1 + m)
    end.before sets st.begins st.reads st.does goes end.end end.count end.few end.same (subst (λ xs. Keeps (drop end.count xs) (drop end.count (slots_of x.after.pending).sites) end.before sets) kept.all end.keeps)
    (starts-same d c.args.base.now.order.now number g on l2 (env_of c.args.base.now.begun.at) at (slots_of c.args.base.now.begun.pending) (slots_of x.after.pending) x.earlier.items x.ticks kept.there st)
    (subst Above kept.above (recursion_from_All (λ (s : Store). IsMemory (names_of d) s.memory) c.args.kept.above.now c.requires.memories)) c.requires.design.alone task c.in_ok-asked.asked.args (slots-there l4 _ _ asks.slots)
    (λ files z b y sound stands. asks.values files z b y (num.longer.sound z tt sound) (stands-stays names b l2 l3 at y g23 st.does.fits stands))

pub returns-clause-few : goal.returns-clause-few
returns-clause-few c number kept =
    let d = flat_of c.args.design.now in
    let x = c.in_ok-earlier.field-0 in
    let st = c.in_ok-earlier.ensures.starts number kept.above in
    let task = call_view c.args.path.now c.args.call.now in
    let few = st.few in
    let l2 = list_of c.up_to_segment.new.cells in
    let l3 = list_of c.number.new.cells in
    let one = longer-few Nothing 1 l2 l3 c.in_ok-next.ensures.gives.longer in
    let more = longer-few (HasMemories (names_of d) (env_of x.after.at)) (asked_count (body_cells d) task) l3 (list_of c.call_of.new.cells) c.in_ok-asked.ensures.traps.asks.longer in
    let same = ap (λ (xs : List Store). length xs) kept.above in
    omega (arith, few, one, more, same)
