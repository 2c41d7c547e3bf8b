-- The nodes of a wave are at most two for each of its calls and branches, and two.
use Rattle.std.proofs.Common.{ℕ, ◌+◌, ◌*◌, ◌≤◌, Bool, true, false, List, [], ◌∷◌, length, arith, length-append}
use Rattle.std.specs.Prelude.{if◌then◌else◌}
use Rattle.vl_design.specs.Syntax.{Stm, Nop, Then, If, Case, For, Repeat, Set, Later, Sys, Items, NoItems, Labelled, Default}
use Rattle.vl_design.specs.Laws.{can_act}
use Rattle.sub_nodes.specs.Nodes.{Segment, still, Node, Commit}
use Rattle.sub_nodes.specs.Code.{Next, Calls, Leads, Head, and_all, next_nodes, head_nodes, Made, before, leading, number, placed, chosen, switching, split, split_items, split_default, split_all, wave_made, wave_nodes}
use Rattle.sub_nodes.specs.Shape.{cuts, item_cuts, default_cuts, all_cuts}

next_few : (next : Next) (g : Segment) (n : ℕ) → length (next_nodes next g n) ≤ 2
next_few (Calls task to) g n = omega arith
next_few (Leads on) g n = omega arith

-- at most so many nodes more
abbrev IsMore : ℕ → Made → Made → Type 0
IsMore n m z = length z.nodes ≤ length m.nodes + 2 * n

either : (held : Bool) (n : ℕ) (m x y : Made) → IsMore n m x → IsMore 0 m y → IsMore (if held then n else 0) m (if held then x else y)
either true n m x y f g = f
either false n m x y f g = g

module _ (from : ℕ) where
  placed_few : (xs : List Node) (h : Head) → length (placed from xs h) ≤ length xs + 2
  placed_few xs h =
      let n = number from xs in
      let len = length-append xs (head_nodes h still n) in
      let few = next_few h.next (and_all still h.statements) n in
      omega (arith, len, few)

  mutual
    split_few : (x : Stm) (m : Made) → IsMore (cuts x) m (split from x m)
    split_few Nop m = omega arith
    split_few (Then a b) m = let f = split_few b m in let g = split_few a (split from b m) in omega (arith, f, g)
    split_few (If t a b) m =
        let x = split from a m in
        let m' : Made = record m { nodes = x.nodes } in
        let y = split from b m' in
        let f = split_few a m in
        let g = split_few b m' in
        let p = placed_few y.nodes x.head in
        let q = placed_few (placed from y.nodes x.head) y.head in
        either (can_act (If t a b)) (cuts a + 1 + (cuts b + 1)) m (chosen from t x.head y) (before (If t a b) m) (omega (arith, f, g, p, q)) (omega arith)
    split_few (Case s items) m =
        let i = split_items from items m in
        let m' : Made = record m { nodes = i.nodes } in
        let y = split_default from items m' in
        let f = items_few items m in
        let g = default_few items m' in
        let p = placed_few y.nodes y.head in
        either (can_act (Case s items)) (item_cuts items + (default_cuts items + 1)) m (switching from s i.ways y) (before (Case s items) m) (omega (arith, f, g, p)) (omega arith)
    split_few (For v start test step a) m = omega arith
    split_few (Repeat n a) m = omega arith
    split_few (Set t s) m = omega arith
    split_few (Later t s) m = omega arith
    split_few (Sys task) m = placed_few m.nodes m.head

    items_few : (items : Items) (m : Made) → length (split_items from items m).nodes ≤ length m.nodes + 2 * item_cuts items
    items_few NoItems m = omega arith
    items_few (Labelled es a others) m =
        let x = split from a m in
        let f = split_few a m in
        let p = placed_few x.nodes x.head in
        let g = items_few others (record m { nodes = placed from x.nodes x.head }) in
        omega (arith, f, p, g)
    items_few (Default a others) m = items_few others m

    default_few : (items : Items) (m : Made) → IsMore (default_cuts items) m (split_default from items m)
    default_few NoItems m = omega arith
    default_few (Labelled es a others) m = default_few others m
    default_few (Default a others) m = split_few a m

  all_few : (xs : List Stm) (m : Made) → IsMore (all_cuts xs) m (split_all from xs m)
  all_few [] m = omega arith
  all_few (x ∷ xs) m = let f = all_few xs m in let g = split_few x (split_all from xs m) in omega (arith, f, g)

  pub wave_few : (u : ℕ) (xs : List Stm) (g : Segment) → length (wave_nodes from u xs g) ≤ 2 * all_cuts xs + 2
  wave_few u xs g =
      let m = wave_made from u xs in
      let n = number from m.nodes in
      let f = all_few xs (leading [] (Commit u)) in
      let len = length-append m.nodes (head_nodes m.head g n) in
      let few = next_few m.head.next (and_all g m.head.statements) n in
      omega (arith, f, len, few)
