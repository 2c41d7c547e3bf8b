-- Of a table that is made of a design one node rises.
use Rattle.std.proofs.Common.{◌≡◌, ℕ, zero, suc, ◌+◌, true, false, List, [], ◌∷◌, ◌++◌, length, Some, refl, sym, ◌∙◌, subst, arith}
use Rattle.std.specs.Prelude.{⊤, slice_get}
use Rattle.vl_design.specs.Syntax.{Stm, Nop, Then, If, Case, For, Repeat, Set, Later, Sys, Items, NoItems, Labelled, Default, Proc, Flat}
use Rattle.vl_design.specs.Queue.{is_init, is_rise, is_fall}
use Rattle.vl_design.specs.Alone.{blocks}
use Rattle.vl_design.specs.Laws.{can_act}
use Rattle.sub_nodes.specs.Nodes.{Segment, still, rising, and_then, Node, Commit}
use Rattle.sub_nodes.specs.Implements.{bodies}
use Rattle.sub_nodes.specs.Code.{Next, Calls, Leads, Head, and_all, next_nodes, head_nodes, Made, before, leading, number, placed, chosen, switching, split, split_items, split_default, split_all, wave_made, wave_nodes, wave_first, fall_nodes, updates, table_of}
use Rattle.sub_nodes.specs.Cycles.{rises}
use Rattle.sub_nodes.proofs.Coded.{either_made, updates_many, table_implements}
use Rattle.sub_nodes.proofs.Beginning.{impls_run}

-- no node but that of number k rises, where they are numbered from i on
abbrev OnlyAt : ℕ → ℕ → List Node → Type 0
OnlyAt k i [] = ⊤
OnlyAt k i (x ∷ xs) = (rises (Some x) ≡ true → i ≡ k) × OnlyAt k (i + 1) xs

abbrev Calm : List Node → Type 0
Calm [] = ⊤
Calm (x ∷ xs) = (rises (Some x) ≡ false) × Calm xs

calm_both : (a b : List Node) → Calm a → Calm b → Calm (a ++ b)
calm_both [] b f g = g
calm_both (x ∷ a) b f g = (f.0, calm_both a b f.1 g)

calm_only : (k i : ℕ) (xs : List Node) → Calm xs → OnlyAt k i xs
calm_only k i [] f = tt
calm_only k i (x ∷ xs) f = (λ h. (let z : ◌≡◌ true false = sym h ∙ f.0 in let y : ⊥ = cc in absurd y), calm_only k (i + 1) xs f.1)

only_both : (k i : ℕ) (a b : List Node) → OnlyAt k i a → OnlyAt k (i + length a) b → OnlyAt k i (a ++ b)
only_both k i [] b f g = let e : i + 0 ≡ i = omega arith in subst (λ j. OnlyAt k j b) e g
only_both k i (x ∷ a) b f g =
    let e : i + length (x ∷ a) ≡ i + 1 + length a = omega arith in
    (f.0, only_both k (i + 1) a b f.1 (subst (λ j. OnlyAt k j b) e g))

only_there : (k i : ℕ) (xs : List Node) (n : ℕ) → OnlyAt k i xs → rises (slice_get xs n) ≡ true → i + n ≡ k
only_there k i [] n f h = let z : ⊥ = cc in absurd z
only_there k i (x ∷ xs) zero f h = let e : i + 0 ≡ i = omega arith in e ∙ f.0 h
only_there k i (x ∷ xs) (suc n) f h = let e : i + suc n ≡ i + 1 + n = omega arith in e ∙ only_there k (i + 1) xs n f.1 h

all_rises : (g : Segment) (xs : List Stm) → (and_all g xs).rises ≡ g.rises
all_rises g [] = refl
all_rises g (x ∷ xs) = all_rises (and_then g x) xs

next_calm : (next : Next) (g : Segment) (n : ℕ) → g.rises ≡ false → Calm (next_nodes next g n)
next_calm (Calls task to) g n e = (e, (refl, tt))
next_calm (Leads on) g n e = (e, tt)

module _ (from : ℕ) where
  placed_calm : (xs : List Node) (h : Head) → Calm xs → Calm (placed from xs h)
  placed_calm xs h f = calm_both xs (head_nodes h still (number from xs)) f (next_calm h.next (and_all still h.statements) (number from xs) (all_rises still h.statements))

  mutual
    split_calm : (x : Stm) (m : Made) → Calm m.nodes → Calm (split from x m).nodes
    split_calm Nop m f = f
    split_calm (Then a b) m f = split_calm a (split from b m) (split_calm b m f)
    split_calm (If t a b) m f =
        let x = split from a m in
        let m' : Made = record m { nodes = x.nodes } in
        let y = split from b m' in
        either_made (λ z. Calm z.nodes) (can_act (If t a b)) (chosen from t x.head y) (before (If t a b) m)
        (placed_calm (placed from y.nodes x.head) y.head (placed_calm y.nodes x.head (split_calm b m' (split_calm a m f)))) f
    split_calm (Case s items) m f =
        let i = split_items from items m in
        let m' : Made = record m { nodes = i.nodes } in
        let y = split_default from items m' in
        either_made (λ z. Calm z.nodes) (can_act (Case s items)) (switching from s i.ways y) (before (Case s items) m)
        (placed_calm y.nodes y.head (default_calm items m' (items_calm items m f))) f
    split_calm (For v start test step a) m f = f
    split_calm (Repeat n a) m f = f
    split_calm (Set t s) m f = f
    split_calm (Later t s) m f = f
    split_calm (Sys task) m f = placed_calm m.nodes m.head f

    items_calm : (items : Items) (m : Made) → Calm m.nodes → Calm (split_items from items m).nodes
    items_calm NoItems m f = f
    items_calm (Labelled es a others) m f =
        let x = split from a m in
        items_calm others (record m { nodes = placed from x.nodes x.head }) (placed_calm x.nodes x.head (split_calm a m f))
    items_calm (Default a others) m f = items_calm others m f

    default_calm : (items : Items) (m : Made) → Calm m.nodes → Calm (split_default from items m).nodes
    default_calm NoItems m f = f
    default_calm (Labelled es a others) m f = default_calm others m f
    default_calm (Default a others) m f = split_calm a m f

  all_calm : (xs : List Stm) (m : Made) → Calm m.nodes → Calm (split_all from xs m).nodes
  all_calm [] m f = f
  all_calm (x ∷ xs) m f = split_calm x (split_all from xs m) (all_calm xs m f)

  wave_calm : (u : ℕ) (xs : List Stm) → Calm (wave_nodes from u xs still)
  wave_calm u xs =
      let m = wave_made from u xs in
      placed_calm m.nodes m.head (all_calm xs (leading [] (Commit u)) tt)

fall_calm : (from : ℕ) (ps : List Proc) → Calm (fall_nodes from ps)
fall_calm from [] = tt
fall_calm from (p ∷ ps) = wave_calm from 2 (bodies (p ∷ ps))

updates_calm : (ps : List Proc) (rise fall : ℕ) → Calm (updates ps rise fall)
updates_calm [] rise fall = (refl, (refl, tt))
updates_calm (p ∷ ps) rise fall = (refl, (refl, (refl, tt)))

-- the node that rises is the first one of its statements
next_only : (next : Next) (g : Segment) (k : ℕ) → OnlyAt k k (next_nodes next g k)
next_only (Calls task to) g k = (λ h. refl, (λ h. (let z : ⊥ = cc in absurd z), tt))
next_only (Leads on) g k = (λ h. refl, tt)

wave_only : (from u : ℕ) (xs : List Stm) (g : Segment) → OnlyAt (wave_first from u xs) from (wave_nodes from u xs g)
wave_only from u xs g =
    let m = wave_made from u xs in
    only_both (wave_first from u xs) from m.nodes (head_nodes m.head g (number from m.nodes)) (calm_only _ from m.nodes (all_calm from xs (leading [] (Commit u)) tt))
    (next_only m.head.next (and_all g m.head.statements) (number from m.nodes))

pub rises_once : (d : Flat) (n : ℕ) → rises (slice_get (table_of d).nodes n) ≡ true → n ≡ (table_of d).rise.first
rises_once d n h =
    let T = table_of d in
    let k = T.rise.first in
    let ups = bodies (blocks is_rise d.procs) in
    let falls = blocks is_fall d.procs in
    let inits = bodies (blocks is_init d.procs) in
    let from = length (updates falls 0 0) in
    let up = wave_nodes from 1 ups rising in
    let down = fall_nodes (from + length up) falls in
    let first = wave_nodes (from + length up + length down) 0 inits still in
    let over = updates falls k T.fall.first in
    let e : 0 + length over ≡ from = (let f = updates_many falls k T.fall.first in omega (arith, f)) in
    let rest : OnlyAt k from (up ++ (down ++ first)) =
    only_both k from up (down ++ first) (wave_only from 1 ups rising) (calm_only k _ (down ++ first) (calm_both down first (fall_calm (from + length up) falls) (wave_calm (from + length up + length down) 0 inits))) in
    let all : OnlyAt k 0 T.nodes = only_both k 0 over (up ++ (down ++ first)) (calm_only k 0 over (updates_calm falls k T.fall.first)) (subst (λ j. OnlyAt k j (up ++ (down ++ first))) (sym e) rest) in
    let at = only_there k 0 T.nodes n all h in
    omega (arith, at)

pub rise_rises : (d : Flat) → rises (slice_get (table_of d).nodes (table_of d).rise.first) ≡ true
rise_rises d =
    let T = table_of d in
    (impls_run T.nodes T.rise.update (bodies (blocks is_rise d.procs)) rising T.rise.first (table_implements d).rise.runs).before
