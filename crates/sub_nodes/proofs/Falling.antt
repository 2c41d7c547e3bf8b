-- The nodes of a wave lead to nodes of smaller numbers, but to a trap right behind.
use Rattle.std.proofs.Common.{◌≡◌, ℕ, ◌+◌, ◌<◌, ◌≤◌, List, [], ◌∷◌, ◌++◌, map, length, subst, arith, length-append}
use Rattle.std.specs.Prelude.{⊤, All}
use Rattle.std.proofs.lemmas.List.Elements.{All-nil, All-cons}
use Rattle.vl_design.specs.Syntax.{Exp, Stm, Nop, Then, If, Case, For, Repeat, Set, Later, Sys, Items, NoItems, Labelled, Default}
use Rattle.vl_design.specs.Laws.{can_act}
use Rattle.sub_nodes.specs.Nodes.{Segment, still, Way, WayOn, Go, Branch, Switch, Commit, Node, Run, Trap, Apply}
use Rattle.sub_nodes.specs.Code.{Next, Calls, Leads, Head, and_all, next_nodes, head_nodes, Made, before, leading, number, placed, chosen, switching, split, split_items, split_default, split_all, wave_made, wave_nodes}
use Rattle.sub_nodes.proofs.Coded.{either_made, earlier, items_earlier, default_earlier}

abbrev pub AllBelow : ℕ → List ℕ → Type 0
AllBelow n xs = All (λ m. m < n) xs

below_more : (n m : ℕ) (xs : List ℕ) → n ≤ m → AllBelow n xs → AllBelow m xs
below_more n m xs h f = λ k d l. (let z = f k d l in omega arith)

-- the way on from node n leads to nodes before it, but to a trap
abbrev pub OnFalls : ℕ → WayOn → Type 0
OnFalls n (Go to) = ⊤
OnFalls n (Branch t first second) = AllBelow n (first ∷ second ∷ [])
OnFalls n (Switch e ways otherwise) = AllBelow n (otherwise ∷ map (λ w. w.to) ways)
OnFalls n (Commit to) = ⊤

-- so does node n; and a trap to one before that of its segment
abbrev pub NodeFalls : ℕ → Node → Type 0
NodeFalls n (Run g on) = OnFalls n on
NodeFalls n (Trap task to) = to + 1 < n
NodeFalls n (Apply to) = ⊤

abbrev pub AllFall : ℕ → List Node → Type 0
AllFall n [] = ⊤
AllFall n (x ∷ xs) = NodeFalls n x × AllFall (n + 1) xs

abbrev NextFalls : ℕ → Next → Type 0
NextFalls n (Calls task to) = to < n
NextFalls n (Leads on) = OnFalls n on

on_more : (n m : ℕ) (on : WayOn) → n ≤ m → OnFalls n on → OnFalls m on
on_more n m (Go to) h f = f
on_more n m (Branch t a b) h f = below_more n m (a ∷ b ∷ []) h f
on_more n m (Switch e ways o) h f = below_more n m (o ∷ map (λ w. w.to) ways) h f
on_more n m (Commit to) h f = f

next_more : (n m : ℕ) (next : Next) → n ≤ m → NextFalls n next → NextFalls m next
next_more n m (Calls task to) h f = omega arith
next_more n m (Leads on) h f = on_more n m on h f

pub fall_both : (n : ℕ) (a b : List Node) → AllFall n a → AllFall (n + length a) b → AllFall n (a ++ b)
fall_both n [] b f g = let e : n + 0 ≡ n = omega arith in subst (λ k. AllFall k b) e g
fall_both n (x ∷ a) b f g =
    let e : n + length (x ∷ a) ≡ n + 1 + length a = omega arith in
    (f.0, fall_both (n + 1) a b f.1 (subst (λ k. AllFall k b) e g))

next_fall : (next : Next) (g : Segment) (n : ℕ) → NextFalls n next → AllFall n (next_nodes next g n)
next_fall (Calls task to) g n f = (tt, (omega arith, tt))
next_fall (Leads on) g n f = (f, tt)

pub next_some : (next : Next) (g : Segment) (n : ℕ) → 1 ≤ length (next_nodes next g n)
next_some (Calls task to) g n = omega arith
next_some (Leads on) g n = omega arith

-- nodes are only added
grown : (k : ℕ) (a b : List Node) → length (a ++ b) ≤ k → length a ≤ k
grown k a b h = let e = length-append a b in omega arith

module _ (from : ℕ) where
  record Falls (m : Made) : Type 0 where
    pub nodes : AllFall from m.nodes
    pub next : NextFalls (number from m.nodes) m.head.next

  place : (xs : List Node) (h : Head) → AllFall from xs → NextFalls (number from xs) h.next → AllFall from (placed from xs h)
  place xs h f k = fall_both from xs (head_nodes h still (number from xs)) f (next_fall h.next (and_all still h.statements) (number from xs) k)

  place_more : (xs : List Node) (h : Head) → number from xs < number from (placed from xs h)
  place_more xs h =
      let n = number from xs in
      let e = length-append xs (head_nodes h still n) in
      let some = next_some h.next (and_all still h.statements) n in
      omega (arith, e, some)

  -- what is made in place of some nodes falls where these are more
  later : (m : Made) (xs : List Node) → AllFall from xs → length m.nodes ≤ length xs → Falls m → Falls (record m { nodes = xs })
  later m xs f h g = record { nodes = f; next = next_more (number from m.nodes) (number from xs) m.head.next (omega arith) g.next }

  more : (x : Stm) (m : Made) → length m.nodes ≤ length (split from x m).nodes
  more x m = earlier from (λ xs. length xs ≤ length (split from x m).nodes) (grown (length (split from x m).nodes)) x m (omega arith)

  items_more : (items : Items) (m : Made) → length m.nodes ≤ length (split_items from items m).nodes
  items_more items m = items_earlier from (λ xs. length xs ≤ length (split_items from items m).nodes) (grown (length (split_items from items m).nodes)) items m (omega arith)

  default_more : (items : Items) (m : Made) → length m.nodes ≤ length (split_default from items m).nodes
  default_more items m =
      default_earlier from (λ xs. length xs ≤ length (split_default from items m).nodes) (grown (length (split_default from items m).nodes)) items m (omega arith)

  two_below : (n a b : ℕ) → a < n → b < n → AllBelow n (a ∷ b ∷ [])
  two_below n a b f g = All-cons (λ m. m < n) a (b ∷ []) f (All-cons (λ m. m < n) b [] g (All-nil (λ m. m < n)))

  choose : (t : Exp) (first : Head) (y : Made) → AllFall from y.nodes → NextFalls (number from y.nodes) first.next
      → NextFalls (number from y.nodes) y.head.next → Falls (chosen from t first y)
  choose t first y f g h =
      let a = place_more y.nodes first in
      let b = place_more (placed from y.nodes first) y.head in
      record {
        nodes = place (placed from y.nodes first) y.head (place y.nodes first f g) (next_more _ _ y.head.next (omega arith) h);
        next = two_below _ (number from y.nodes) (number from (placed from y.nodes first)) (omega arith) b;
      }

  switch : (e : Exp) (ways : List Way) (y : Made) → AllBelow (number from y.nodes) (map (λ w. w.to) ways) → Falls y → Falls (switching from e ways y)
  switch e ways y w f =
      let a = place_more y.nodes y.head in
      let n = number from (placed from y.nodes y.head) in
      record {
        nodes = place y.nodes y.head f.nodes f.next;
        next = All-cons (λ m. m < n) (number from y.nodes) (map (λ w. w.to) ways) a (below_more _ n _ (omega arith) w);
      }

  mutual
    split_falls : (x : Stm) (m : Made) → Falls m → Falls (split from x m)
    split_falls Nop m f = f
    split_falls (Then a b) m f = split_falls a (split from b m) (split_falls b m f)
    split_falls (If t a b) m f =
        let x = split from a m in
        let m' : Made = record m { nodes = x.nodes } in
        let y = split from b m' in
        let fx = split_falls a m f in
        let fy = split_falls b m' (later m x.nodes fx.nodes (more a m) f) in
        either_made Falls (can_act (If t a b)) (chosen from t x.head y) (before (If t a b) m)
        (choose t x.head y fy.nodes (next_more (number from x.nodes) (number from y.nodes) x.head.next (let k = more b m' in omega arith) fx.next) fy.next)
        (record { nodes = f.nodes; next = f.next })
    split_falls (Case s items) m f =
        let i = split_items from items m in
        let m' : Made = record m { nodes = i.nodes } in
        let y = split_default from items m' in
        let fi = items_fall items m f in
        let fy = default_falls items m' (later m i.nodes fi.0 (items_more items m) f) in
        either_made Falls (can_act (Case s items)) (switching from s i.ways y) (before (Case s items) m)
        (switch s i.ways y (below_more (number from i.nodes) (number from y.nodes) _ (let k = default_more items m' in omega arith) fi.1) fy)
        (record { nodes = f.nodes; next = f.next })
    split_falls (For v start test step a) m f = record { nodes = f.nodes; next = f.next }
    split_falls (Repeat n a) m f = record { nodes = f.nodes; next = f.next }
    split_falls (Set t s) m f = record { nodes = f.nodes; next = f.next }
    split_falls (Later t s) m f = record { nodes = f.nodes; next = f.next }
    split_falls (Sys task) m f = record { nodes = place m.nodes m.head f.nodes f.next; next = place_more m.nodes m.head }

    items_fall : (items : Items) (m : Made) → Falls m
        → AllFall from (split_items from items m).nodes × AllBelow (number from (split_items from items m).nodes) (map (λ w. w.to) (split_items from items m).ways)
    items_fall NoItems m f = (f.nodes, All-nil (λ k. k < number from m.nodes))
    items_fall (Labelled es a others) m f =
        let x = split from a m in
        let xs = placed from x.nodes x.head in
        let m' : Made = record m { nodes = xs } in
        let fx = split_falls a m f in
        let p = place_more x.nodes x.head in
        let g = later m xs (place x.nodes x.head fx.nodes fx.next) (let k = more a m in omega arith) f in
        let r = items_fall others m' g in
        let n = number from (split_items from others m').nodes in
        let l : number from x.nodes < n = (let k = items_more others m' in omega arith) in
        (r.0, All-cons (λ k. k < n) (number from x.nodes) (map (λ w. w.to) (split_items from others m').ways) l r.1)
    items_fall (Default a others) m f = items_fall others m f

    default_falls : (items : Items) (m : Made) → Falls m → Falls (split_default from items m)
    default_falls NoItems m f = f
    default_falls (Labelled es a others) m f = default_falls others m f
    default_falls (Default a others) m f = split_falls a m f

  all_fall : (xs : List Stm) (m : Made) → Falls m → Falls (split_all from xs m)
  all_fall [] m f = f
  all_fall (x ∷ xs) m f = split_falls x (split_all from xs m) (all_fall xs m f)

  pub wave_falls : (u : ℕ) (xs : List Stm) (g : Segment) → AllFall from (wave_nodes from u xs g)
  wave_falls u xs g =
      let m = wave_made from u xs in
      let f = all_fall xs (leading [] (Commit u)) (record { nodes = tt; next = tt }) in
      fall_both from m.nodes (head_nodes m.head g (number from m.nodes)) f.nodes (next_fall m.head.next (and_all g m.head.statements) (number from m.nodes) f.next)
