use Rattle.std.proofs.Common.{◌<◌, ◌^◌, List, [], length, map, drop, sym, ap, ◌∙◌, arith, subst}
use Rattle.std.specs.Prelude.{All}
use Rattle.std.specs.List.{AllByRecursion}
use Rattle.std.proofs.lemmas.List.Elements.{recursion_from_All}
use Rattle.std.proofs.lemmas.Result.{IfOk-weaker}
use Rattle.vl_design.specs.Sound.{IsMemory}
use Rattle.vl_design.specs.Trees.{flat_of}
use Rattle.vl_design.specs.Width.{names_of}
use Rattle.cell_emit.specs.cell_form.specs.Views.{list_of}
use Rattle.cell_emit.specs.Envs.{env_of, HasMemories}
use Rattle.cell_emit.specs.Pendings.{slots_of}
use Rattle.cell_expr.specs.Counts.{body_cells}
use Rattle.cell_calls.specs.Next.{next_count}
use Rattle.cell_waves.proofs.Lengths.{longer-few}
use Rattle.ten_form.specs.sub_nodes.specs.Nodes as n
use Rattle.ten_form.specs.sub_split.specs.Views.{segment_view, way_on_view}
use Rattle.ten_form.specs.declared.store.Store.{Store}
use Rattle.ten_form.specs.Holding.{mask_register}
use Rattle.cell_waves.specs.Keeping.{Keeps}
use Rattle.cell_states.proofs.Making.{starts-same, is-made}
use Rattle.cell_states.proofs.Storing.{few-above}
use Rattle.cell_states.proofs.run.made.Goals as goal

pub up_to_segment-requires-clause-few : goal.up_to_segment-requires-clause-few
up_to_segment-requires-clause-few c =
    let d = flat_of c.args.design.now in
    let number = c.requires.stores.0 in
    let kept = c.requires.stores.1 in
    let F : List Store → Type 0 = λ xs. All (λ s. mask_register s < 2 ^ 32) xs in
    subst F (sym kept.above) (few-above d number (n.Run (segment_view c.args.segment.now) (way_on_view c.args.on.now)) kept.there (subst F kept.all c.requires.few))

pub next_in-requires-clause-fits : goal.next_in-requires-clause-fits
next_in-requires-clause-fits c = (c.in_ok-earlier.ensures.starts c.requires.stores.0 c.requires.stores.1.above).does.fits

pub next_in-requires-clause-first : goal.next_in-requires-clause-first
next_in-requires-clause-first c =
    let st = c.in_ok-earlier.ensures.starts c.requires.stores.0 c.requires.stores.1.above in
    st.does.first ∙ st.begins.first

pub writes-requires-clause-same : goal.writes-requires-clause-same
writes-requires-clause-same c =
    let d = flat_of c.args.design.now in
    let number = c.requires.stores.0 in
    let kept = c.requires.stores.1 in
    let x = c.in_ok-earlier.field-0 in
    ap (map (λ (s : Store). s.memory)) kept.all
    ∙ starts-same d c.args.base.now.order.now number (segment_view c.args.segment.now) (way_on_view c.args.on.now) (list_of c.up_to_segment.new.cells) (env_of c.args.base.now.begun.at) (env_of x.after.at) (slots_of c.args.base.now.begun.pending) (slots_of x.after.pending) x.earlier.items x.ticks kept.there
    (c.in_ok-earlier.ensures.starts number kept.above)

pub returns-clause-made : goal.returns-clause-made
returns-clause-made c =
    let d = flat_of c.args.design.now in
    let order = c.args.base.now.order.now in
    let x = c.in_ok-earlier.field-0 in
    let g = segment_view c.args.segment.now in
    let on = way_on_view c.args.on.now in
    let h = c.in_ok-next.ensures.holds in
    let l2 = list_of c.up_to_segment.new.cells in
    let at0 = env_of c.args.base.now.begun.at in
    let p0 = slots_of c.args.base.now.begun.pending in
    let Above : List Store → Type 0 = λ xs. AllByRecursion (λ (s : Store). IsMemory (names_of d) s.memory) xs in
    IfOk-weaker c.writes.result _ _
    (λ sets told number kept.
    let end = rw c.as_slice.ensures.value at (rw c.commits.ensures at told) in
    let st = c.in_ok-earlier.ensures.starts number kept.above in
    is-made d order c.args.delayed.now c.requires.delayed number g on st.first st.second l2 (list_of c.next_in.new.cells) at0 (env_of x.after.at) p0 (slots_of x.after.pending) x.earlier.items x.ticks c.in_ok-next.next (next_count (body_cells d) on)
    end.before sets.items st.begins st.reads st.does h end.end end.count end.few end.same (subst (λ xs. Keeps (drop end.count xs) (drop end.count (slots_of x.after.pending).sites) end.before sets.items) kept.all end.keeps)
    (starts-same d order number g on l2 at0 (env_of x.after.at) p0 (slots_of x.after.pending) x.earlier.items x.ticks kept.there st)
    (subst Above kept.above (recursion_from_All (λ (s : Store). IsMemory (names_of d) s.memory) c.args.kept.above.now c.requires.memories)) c.requires.design.alone)
    c.writes.ensures

pub returns-clause-few : goal.returns-clause-few
returns-clause-few c =
    let d = flat_of c.args.design.now in
    let on = way_on_view c.args.on.now in
    IfOk-weaker c.writes.result _ _ (λ sets end number kept.
    let x = c.in_ok-earlier.field-0 in
    let st = c.in_ok-earlier.ensures.starts number kept.above in
    let few = st.few in
    let more = longer-few (HasMemories (names_of d) (env_of x.after.at)) (next_count (body_cells d) on) (list_of c.up_to_segment.new.cells) (list_of c.next_in.new.cells) (c.in_ok-next.ensures.holds []).longer in
    let same = ap (λ (xs : List Store). length xs) kept.above in
    omega (arith, few, more, same)) c.writes.ensures
