use Rattle.std.proofs.Common.{◌≡◌, ◌∙◌, ◌+◌, ◌-◌, ◌<◌, List, Some, ap, sym, refl, subst, length, map, arith}
use Rattle.std.specs.Prelude.{All, slice_get}
use Rattle.std.proofs.lemmas.List.{length-map}
use Rattle.std.proofs.lemmas.Result.{on_ok_weaker}
use Rattle.vl_design.specs.Sound.{IsMemory}
use Rattle.vl_design.specs.Trees.{flat_of}
use Rattle.vl_design.specs.Width.{names_of}
use Rattle.cell_emit.specs.cell_form.specs.Views.{state_of}
use Rattle.ten_form.specs.sub_nodes.specs.Nodes as n
use Rattle.ten_form.specs.sub_nodes.specs.Nodes.{Node}
use Rattle.ten_form.specs.sub_split.specs.declared.table.Node.{Node as NodeCode}
use Rattle.ten_form.specs.sub_split.specs.declared.table.Node.TheVariants as v
use Rattle.ten_form.specs.sub_split.specs.Views.{call_view, node_view, segment_view, way_on_view}
use Rattle.ten_form.specs.Banks.{cell_nodes}
use Rattle.ten_form.specs.declared.store.Store.{Store}
use Rattle.cell_states.specs.Mades.{IsKept}
use Rattle.cell_states.specs.Pieces.{IsCellNode}
use Rattle.cell_states.proofs.Counting.{left-most, less-one, less-two, front-all, node-at, own-fits, kept-at}
use Rattle.cell_states.proofs.Noding.{on-both, node-behind, add-run-state, add-update-state, add-call-states, call-behind, call-room, one-longer, two-longer, run-few, call-few}
use Rattle.cell_states.proofs.Tabling.{go-is, none-waits}
use Rattle.cell_states.proofs.Wording.{stores-memories}
use Rattle.cell_states.proofs.table.add_node.Goals as goal

pub kept_of-kept-requires-clause-own : goal.kept_of-kept-requires-clause-own
kept_of-kept-requires-clause-own c =
    let d = flat_of c.args.design.now in
    let built = c.args.built.now in
    let nodes = c.args.nodes.now in
    let k = length c.as_slice-number.result.now in
    let same : k ≡ length built.states = ap length c.as_slice-number.ensures in
    let more = c.requires.more in
    let lt : k < length nodes = omega (arith, same, more) in
    let x = c.index-nodes-number.result in
    let y = v.Run c.in-Run.segment c.in-Run.on in
    own-fits d nodes built.states k x y c.requires.table same lt c.index-nodes-number.is c.in-Run.is c.in_ok-own-in-Run.own built.left c.in_ok-own-in-Run.ensures c.requires.first.left

pub kept_of-kept-requires-clause-left : goal.kept_of-kept-requires-clause-left
kept_of-kept-requires-clause-left c =
    let d = flat_of c.args.design.now in
    let most = left-most d (length (map state_of c.args.built.now.states)) in
    let left = c.requires.first.left in
    let same = ap (λ (xs : List Store). length xs) c.requires.stores in
    omega (arith, most, left, same)

pub add_run-requires-clause-stores : goal.add_run-requires-clause-stores
add_run-requires-clause-stores c =
    let d = flat_of c.args.design.now in
    let built = c.args.built.now in
    let nodes = c.args.nodes.now in
    let k = length c.as_slice-number.result.now in
    let same : k ≡ length built.states = ap length c.as_slice-number.ensures in
    let more = c.requires.more in
    let lt : k < length nodes = omega (arith, same, more) in
    let x = c.index-nodes-number.result in
    let y = v.Run c.in-Run.segment c.in-Run.on in
    let kept = kept-at d nodes built.states k x y c.requires.table same lt c.index-nodes-number.is c.in-Run.is c.in_ok-own-in-Run.own built.left c.in_ok-own-in-Run.ensures c.requires.first.left
    c.kept_of-kept.result c.args.stores.now c.requires.stores c.kept_of-kept.ensures.above c.kept_of-kept.ensures.all in
    (length (map state_of built.states), kept)

pub add_run-requires-clause-memories : goal.add_run-requires-clause-memories
add_run-requires-clause-memories c =
    let all = stores-memories (flat_of c.args.design.now) c.args.nodes.now c.requires.table c.requires.nodes in
    front-all (λ (s : Store). IsMemory (names_of (flat_of c.args.design.now)) s.memory) (c.args.built.now.left - c.in_ok-own-in-Run.own) c.args.stores.now c.kept_of-kept.result.above.now c.kept_of-kept.ensures.above
    (subst (All (λ (s : Store). IsMemory (names_of (flat_of c.args.design.now)) s.memory)) (sym c.requires.stores) all)

pub add_call-requires-clause-stores : goal.add_call-requires-clause-stores
add_call-requires-clause-stores c =
    let d = flat_of c.args.design.now in
    let built = c.args.built.now in
    let nodes = c.args.nodes.now in
    let k = length c.as_slice-number.result.now in
    let same : k ≡ length built.states = ap length c.as_slice-number.ensures in
    let more = c.requires.more in
    let lt : k < length nodes = omega (arith, same, more) in
    let x = c.index-nodes-number.result in
    let y = v.Run c.in-Run.segment c.in-Run.on in
    let there = node-at d nodes built.states k x y c.requires.table same lt c.index-nodes-number.is c.in-Run.is in
    let go = sym c.go_of.ensures ∙ c.in-Some.is in
    let kept = subst (λ w. IsKept d (length (map state_of built.states)) c.kept_of-kept.result (n.Run (segment_view c.in-Run.segment) w)) (go-is d c.args.base.now.order.now (cell_nodes d) (way_on_view c.in-Run.on) c.in-Some.trap go)
    (kept-at d nodes built.states k x y c.requires.table same lt c.index-nodes-number.is c.in-Run.is c.in_ok-own-in-Run.own built.left c.in_ok-own-in-Run.ensures c.requires.first.left
    c.kept_of-kept.result c.args.stores.now c.requires.stores c.kept_of-kept.ensures.above c.kept_of-kept.ensures.all) in
    (length (map state_of built.states), kept)

pub add_call-requires-clause-memories : goal.add_call-requires-clause-memories
add_call-requires-clause-memories c =
    let all = stores-memories (flat_of c.args.design.now) c.args.nodes.now c.requires.table c.requires.nodes in
    front-all (λ (s : Store). IsMemory (names_of (flat_of c.args.design.now)) s.memory) (c.args.built.now.left - c.in_ok-own-in-Run.own) c.args.stores.now c.kept_of-kept.result.above.now c.kept_of-kept.ensures.above
    (subst (All (λ (s : Store). IsMemory (names_of (flat_of c.args.design.now)) s.memory)) (sym c.requires.stores) all)

pub add_call-requires-clause-task : goal.add_call-requires-clause-task
add_call-requires-clause-task c =
    let d = flat_of c.args.design.now in
    let built = c.args.built.now in
    let nodes = c.args.nodes.now in
    let k = length c.as_slice-number.result.now in
    let same : k ≡ length built.states = ap length c.as_slice-number.ensures in
    let more = c.requires.more in
    let lt : k < length nodes = omega (arith, same, more) in
    let x = c.index-nodes-number.result in
    let y = v.Run c.in-Run.segment c.in-Run.on in
    let there = node-at d nodes built.states k x y c.requires.table same lt c.index-nodes-number.is c.in-Run.is in
    let go = sym c.go_of.ensures ∙ c.in-Some.is in
    let room = call-room d c.args.base.now.order.now (cell_nodes d) (map state_of built.states) built.slots built.left c.requires.first (segment_view c.in-Run.segment) (way_on_view c.in-Run.on) c.in-Some.trap go there in
    let many = ap (λ (xs : List Node). length xs) c.requires.table in
    let views = length-map nodes node_view in
    let long = length-map built.states state_of in
    let lt2 : k + 1 < length nodes = omega (arith, room, many, views, long, same) in
    let names = names_of d in
    let z = c.index-nodes-number-in-Some.result in
    subst (IsCellNode names) (sym c.index-nodes-number-in-Some.is ∙ c.in-Trap-nodes.is) (c.requires.nodes (k + 1) z lt2)

pub unreachable-requires : goal.unreachable-requires
unreachable-requires c =
    let d = flat_of c.args.design.now in
    let built = c.args.built.now in
    let nodes = c.args.nodes.now in
    let k = length c.as_slice-number.result.now in
    let same : k ≡ length built.states = ap length c.as_slice-number.ensures in
    let more = c.requires.more in
    let lt : k < length nodes = omega (arith, same, more) in
    let x = c.index-nodes-number.result in
    let y = v.Run c.in-Run.segment c.in-Run.on in
    let there = node-at d nodes built.states k x y c.requires.table same lt c.index-nodes-number.is c.in-Run.is in
    let go = sym c.go_of.ensures ∙ c.in-Some.is in
    let room = call-room d c.args.base.now.order.now (cell_nodes d) (map state_of built.states) built.slots built.left c.requires.first (segment_view c.in-Run.segment) (way_on_view c.in-Run.on) c.in-Some.trap go there in
    let many = ap (λ (xs : List Node). length xs) c.requires.table in
    let views = length-map nodes node_view in
    let long = length-map built.states state_of in
    let lt2 : k + 1 < length nodes = omega (arith, room, many, views, long, same) in
    let behind = subst (λ (xs : List Node). slice_get xs (length (map state_of built.states) + 1) ≡ Some (node_view c.index-nodes-number-in-Some.result)) c.requires.table
    (node-behind nodes built.states k c.index-nodes-number-in-Some.result same lt2 c.index-nodes-number-in-Some.is) ∙ ap (λ (z : NodeCode). Some (node_view z)) c.in-Run-nodes.is in
    call-behind d c.args.base.now.order.now (cell_nodes d) (map state_of built.states) built.slots built.left c.requires.first (segment_view c.in-Run.segment) (way_on_view c.in-Run.on) c.in-Some.trap _ go there behind refl

pub unreachable-requires-in-Apply-nodes : goal.unreachable-requires-in-Apply-nodes
unreachable-requires-in-Apply-nodes c =
    let d = flat_of c.args.design.now in
    let built = c.args.built.now in
    let nodes = c.args.nodes.now in
    let k = length c.as_slice-number.result.now in
    let same : k ≡ length built.states = ap length c.as_slice-number.ensures in
    let more = c.requires.more in
    let lt : k < length nodes = omega (arith, same, more) in
    let x = c.index-nodes-number.result in
    let y = v.Run c.in-Run.segment c.in-Run.on in
    let there = node-at d nodes built.states k x y c.requires.table same lt c.index-nodes-number.is c.in-Run.is in
    let go = sym c.go_of.ensures ∙ c.in-Some.is in
    let room = call-room d c.args.base.now.order.now (cell_nodes d) (map state_of built.states) built.slots built.left c.requires.first (segment_view c.in-Run.segment) (way_on_view c.in-Run.on) c.in-Some.trap go there in
    let many = ap (λ (xs : List Node). length xs) c.requires.table in
    let views = length-map nodes node_view in
    let long = length-map built.states state_of in
    let lt2 : k + 1 < length nodes = omega (arith, room, many, views, long, same) in
    let behind = subst (λ (xs : List Node). slice_get xs (length (map state_of built.states) + 1) ≡ Some (node_view c.index-nodes-number-in-Some.result)) c.requires.table
    (node-behind nodes built.states k c.index-nodes-number-in-Some.result same lt2 c.index-nodes-number-in-Some.is) ∙ ap (λ (z : NodeCode). Some (node_view z)) c.in-Apply-nodes.is in
    call-behind d c.args.base.now.order.now (cell_nodes d) (map state_of built.states) built.slots built.left c.requires.first (segment_view c.in-Run.segment) (way_on_view c.in-Run.on) c.in-Some.trap _ go there behind refl

pub add_update-requires-clause-memories : goal.add_update-requires-clause-memories
add_update-requires-clause-memories c =
    subst (All (λ (s : Store). IsMemory (names_of (flat_of c.args.design.now)) s.memory)) (sym c.requires.stores) (stores-memories (flat_of c.args.design.now) c.args.nodes.now c.requires.table c.requires.nodes)

pub unreachable-requires-in-Trap : goal.unreachable-requires-in-Trap
unreachable-requires-in-Trap c =
    let d = flat_of c.args.design.now in
    let built = c.args.built.now in
    let nodes = c.args.nodes.now in
    let k = length c.as_slice-number.result.now in
    let same : k ≡ length built.states = ap length c.as_slice-number.ensures in
    let more = c.requires.more in
    let lt : k < length nodes = omega (arith, same, more) in
    let x = c.index-nodes-number.result in
    let y = v.Trap c.in-Trap.field-0 c.in-Trap.field-1 c.in-Trap.field-2 in
    let there = node-at d nodes built.states k x y c.requires.table same lt c.index-nodes-number.is c.in-Trap.is in
    none-waits d c.args.base.now.order.now (cell_nodes d) (length (map state_of built.states)) _ _ there c.requires.first.rest

pub returns-in-None-clause-first : goal.returns-in-None-clause-first
returns-in-None-clause-first c =
    let d = flat_of c.args.design.now in
    let built = c.args.built.now in
    let nodes = c.args.nodes.now in
    let k = length c.as_slice-number.result.now in
    let same : k ≡ length built.states = ap length c.as_slice-number.ensures in
    let more = c.requires.more in
    let lt : k < length nodes = omega (arith, same, more) in
    let x = c.index-nodes-number.result in
    let y = v.Run c.in-Run.segment c.in-Run.on in
    let there = node-at d nodes built.states k x y c.requires.table same lt c.index-nodes-number.is c.in-Run.is in
    let kept = kept-at d nodes built.states k x y c.requires.table same lt c.index-nodes-number.is c.in-Run.is c.in_ok-own-in-Run.own built.left c.in_ok-own-in-Run.ensures c.requires.first.left
    c.kept_of-kept.result c.args.stores.now c.requires.stores c.kept_of-kept.ensures.above c.kept_of-kept.ensures.all in
    on-both c.add_run.result c.add_run.ensures.more c.add_run.ensures.left (λ h left.
    add-run-state d c.args.base.now.order.now (cell_nodes d) (map state_of built.states) built.slots built.left c.requires.first (segment_view c.in-Run.segment) (way_on_view c.in-Run.on) _ (map state_of c.add_run.new.built.states) c.add_run.new.built.slots
    c.add_run.new.built.left (sym c.go_of.ensures ∙ c.in-None.is) (h (length (map state_of built.states)) kept)
    (run-few d c.args.base.now.order.now (cell_nodes d) (segment_view c.in-Run.segment) (way_on_view c.in-Run.on) (length c.kept_of-kept.result.above.now) (let most = left-most d (length (map state_of built.states) + 1) in let same = ap (λ (xs : List Store). length xs) kept.above in omega (arith, most, same))) there (left ∙ ap (λ (xs : List Store). length xs) kept.above))

pub returns-in-None-clause-more : goal.returns-in-None-clause-more
returns-in-None-clause-more c =
    let d = flat_of c.args.design.now in
    let built = c.args.built.now in
    let nodes = c.args.nodes.now in
    let k = length c.as_slice-number.result.now in
    let same : k ≡ length built.states = ap length c.as_slice-number.ensures in
    let more = c.requires.more in
    let lt : k < length nodes = omega (arith, same, more) in
    let x = c.index-nodes-number.result in
    let y = v.Run c.in-Run.segment c.in-Run.on in
    let kept = kept-at d nodes built.states k x y c.requires.table same lt c.index-nodes-number.is c.in-Run.is c.in_ok-own-in-Run.own built.left c.in_ok-own-in-Run.ensures c.requires.first.left
    c.kept_of-kept.result c.args.stores.now c.requires.stores c.kept_of-kept.ensures.above c.kept_of-kept.ensures.all in
    on_ok_weaker c.add_run.result (λ h. one-longer d c.args.base.now.order.now (length (map state_of built.states)) (node_view y) _ built.states c.add_run.new.built.states built.slots c.add_run.new.built.slots (h (length (map state_of built.states)) kept)) c.add_run.ensures.more

pub returns-in-Trap-nodes-clause-first : goal.returns-in-Trap-nodes-clause-first
returns-in-Trap-nodes-clause-first c =
    let d = flat_of c.args.design.now in
    let built = c.args.built.now in
    let nodes = c.args.nodes.now in
    let k = length c.as_slice-number.result.now in
    let same : k ≡ length built.states = ap length c.as_slice-number.ensures in
    let more = c.requires.more in
    let lt : k < length nodes = omega (arith, same, more) in
    let x = c.index-nodes-number.result in
    let y = v.Run c.in-Run.segment c.in-Run.on in
    let there = node-at d nodes built.states k x y c.requires.table same lt c.index-nodes-number.is c.in-Run.is in
    let go = sym c.go_of.ensures ∙ c.in-Some.is in
    let room = call-room d c.args.base.now.order.now (cell_nodes d) (map state_of built.states) built.slots built.left c.requires.first (segment_view c.in-Run.segment) (way_on_view c.in-Run.on) c.in-Some.trap go there in
    let many = ap (λ (xs : List Node). length xs) c.requires.table in
    let views = length-map nodes node_view in
    let long = length-map built.states state_of in
    let lt2 : k + 1 < length nodes = omega (arith, room, many, views, long, same) in
    let behind = subst (λ (xs : List Node). slice_get xs (length (map state_of built.states) + 1) ≡ Some (node_view c.index-nodes-number-in-Some.result)) c.requires.table
    (node-behind nodes built.states k c.index-nodes-number-in-Some.result same lt2 c.index-nodes-number-in-Some.is) ∙ ap (λ (z : NodeCode). Some (node_view z)) c.in-Trap-nodes.is in
    let kept = subst (λ w. IsKept d (length (map state_of built.states)) c.kept_of-kept.result (n.Run (segment_view c.in-Run.segment) w)) (go-is d c.args.base.now.order.now (cell_nodes d) (way_on_view c.in-Run.on) c.in-Some.trap go)
    (kept-at d nodes built.states k x y c.requires.table same lt c.index-nodes-number.is c.in-Run.is c.in_ok-own-in-Run.own built.left c.in_ok-own-in-Run.ensures c.requires.first.left
    c.kept_of-kept.result c.args.stores.now c.requires.stores c.kept_of-kept.ensures.above c.kept_of-kept.ensures.all) in
    on-both c.add_call.result c.add_call.ensures.more c.add_call.ensures.left (λ h left.
    add-call-states d c.args.base.now.order.now (cell_nodes d) (map state_of built.states) built.slots built.left c.requires.first (segment_view c.in-Run.segment) (way_on_view c.in-Run.on) c.in-Some.trap c.in-Trap-nodes.to
    (call_view c.in-Trap-nodes.path.now c.in-Trap-nodes.call.now) _ (map state_of c.add_call.new.built.states) c.add_call.new.built.slots c.add_call.new.built.left go (h (length (map state_of built.states)) kept)
    (call-few d c.args.base.now.order.now (segment_view c.in-Run.segment) (call_view c.in-Trap-nodes.path.now c.in-Trap-nodes.call.now) (length c.kept_of-kept.result.above.now) (let most = left-most d (length (map state_of built.states) + 1) in let same = ap (λ (xs : List Store). length xs) kept.above in omega (arith, most, same))) there behind
    (left ∙ ap (λ (xs : List Store). length xs) kept.above ∙ less-two d (length (map state_of built.states)) _ _ behind))

pub returns-in-Trap-nodes-clause-more : goal.returns-in-Trap-nodes-clause-more
returns-in-Trap-nodes-clause-more c =
    let d = flat_of c.args.design.now in
    let built = c.args.built.now in
    let nodes = c.args.nodes.now in
    let k = length c.as_slice-number.result.now in
    let same : k ≡ length built.states = ap length c.as_slice-number.ensures in
    let more = c.requires.more in
    let lt : k < length nodes = omega (arith, same, more) in
    let x = c.index-nodes-number.result in
    let y = v.Run c.in-Run.segment c.in-Run.on in
    let there = node-at d nodes built.states k x y c.requires.table same lt c.index-nodes-number.is c.in-Run.is in
    let go = sym c.go_of.ensures ∙ c.in-Some.is in
    let kept = subst (λ w. IsKept d (length (map state_of built.states)) c.kept_of-kept.result (n.Run (segment_view c.in-Run.segment) w)) (go-is d c.args.base.now.order.now (cell_nodes d) (way_on_view c.in-Run.on) c.in-Some.trap go)
    (kept-at d nodes built.states k x y c.requires.table same lt c.index-nodes-number.is c.in-Run.is c.in_ok-own-in-Run.own built.left c.in_ok-own-in-Run.ensures c.requires.first.left
    c.kept_of-kept.result c.args.stores.now c.requires.stores c.kept_of-kept.ensures.above c.kept_of-kept.ensures.all) in
    on_ok_weaker c.add_call.result (λ h.
    two-longer d c.args.base.now.order.now (length (map state_of built.states)) (segment_view c.in-Run.segment) c.in-Some.trap (call_view c.in-Trap-nodes.path.now c.in-Trap-nodes.call.now) c.in-Trap-nodes.to _ built.states
    c.add_call.new.built.states built.slots c.add_call.new.built.slots (h (length (map state_of built.states)) kept)) c.add_call.ensures.more

pub returns-in-Apply-clause-first : goal.returns-in-Apply-clause-first
returns-in-Apply-clause-first c =
    let d = flat_of c.args.design.now in
    let built = c.args.built.now in
    let nodes = c.args.nodes.now in
    let k = length c.as_slice-number.result.now in
    let same : k ≡ length built.states = ap length c.as_slice-number.ensures in
    let more = c.requires.more in
    let lt : k < length nodes = omega (arith, same, more) in
    let x = c.index-nodes-number.result in
    let y = v.Apply c.in-Apply.to in
    let there = node-at d nodes built.states k x y c.requires.table same lt c.index-nodes-number.is c.in-Apply.is in
    on-both c.add_update.result c.add_update.ensures.more c.add_update.ensures.left (λ h left.
    add-update-state d c.args.base.now.order.now (cell_nodes d) (map state_of built.states) built.slots built.left c.requires.first c.in-Apply.to (map state_of c.add_update.new.built.states) c.add_update.new.built.slots c.add_update.new.built.left
    (h c.args.base.now.order.now (length (map state_of built.states))) there (left ∙ c.requires.first.left ∙ less-one d (length (map state_of built.states)) c.in-Apply.to there))

pub returns-in-Apply-clause-more : goal.returns-in-Apply-clause-more
returns-in-Apply-clause-more c =
    let d = flat_of c.args.design.now in
    let built = c.args.built.now in
    on_ok_weaker c.add_update.result (λ h.
    one-longer d c.args.base.now.order.now (length (map state_of built.states)) (n.Apply c.in-Apply.to) _ built.states c.add_update.new.built.states built.slots c.add_update.new.built.slots (h c.args.base.now.order.now (length (map state_of built.states)))) c.add_update.ensures.more
