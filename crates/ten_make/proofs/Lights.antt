-- What the nodes of a table are compiled to, besides what each state begins with: no more than the statements of their wave.
use Rattle.std.proofs.Common.{◌≡◌, ◌≤◌, ◌+◌, ℕ, List, [], ◌∷◌, ◌++◌, Bool, true, false, length, refl, sym, ap, ◌∙◌, arith, subst}
use Rattle.std.specs.Prelude.{⊤, ◌||◌, if◌then◌else◌}
use Rattle.ten_core.specs.vl_design.specs.Exec.{asks}
use Rattle.ten_core.specs.vl_design.specs.Laws.{can_act, items_can_act}
use Rattle.ten_core.specs.vl_design.specs.Syntax.{Exp, Task, Stm, Nop, Then, If, Case, For, Repeat, Set, Later, Sys, Items, NoItems, Labelled, Default, Flat}
use Rattle.cell_states.specs.cell_expr.specs.Counts.{exp_count, stm_count, body_cells}
use Rattle.cell_states.specs.cell_calls.specs.Counts.{asked_count}
use Rattle.cell_states.specs.cell_calls.specs.Next.{next_count, ways_count}
use Rattle.cell_states.specs.Cells.{stms_count}
use Rattle.sub_split.specs.sub_nodes.specs.Nodes.{Segment, still, and_then, Way, WayOn, Go, Branch, Switch, Commit, Node, Run, Trap, Apply}
use Rattle.sub_split.specs.sub_nodes.specs.Code.{Next, Calls, Leads, Head, and_all, next_nodes, head_nodes, Made, before, leading, ItemsMade, number, placed, chosen, switching, split, split_items, split_default, split_all, wave_made, wave_nodes}
use Rattle.ten_make.proofs.Weights.{subject_most, stm_most, items_most, count-most}

module _ (d : Flat) where
  abbrev body : ℕ → ℕ
  body = body_cells d

  -- each segment with its way on, and the call that it comes to, has at most so many cells
  abbrev pub AreLight : ℕ → List Node → Type 0
  AreLight k [] = ⊤
  AreLight k (Run g (Go m) ∷ Trap task to ∷ xs) = (stms_count d g.statements + (1 + asked_count body task) ≤ k) × AreLight k xs
  AreLight k (Run g (Go m) ∷ xs) = ⊥
  AreLight k (Trap task to ∷ xs) = ⊥
  AreLight k (Run g on ∷ xs) = (stms_count d g.statements + next_count body on ≤ k) × AreLight k xs
  AreLight k (Apply to ∷ xs) = AreLight k xs

  -- so many cells and what comes behind them
  abbrev IsLightNext : ℕ → ℕ → Next → Type 0
  IsLightNext k n (Calls task to) = n + (1 + asked_count body task) ≤ k
  IsLightNext k n (Leads (Go to)) = ⊥
  IsLightNext k n (Leads on) = n + next_count body on ≤ k

  abbrev IsLightHead : ℕ → Head → Type 0
  IsLightHead k h = IsLightNext k (stms_count d h.statements) h.next

  -- the head has at most so many, and each node made so far at most so many
  pub record IsLightMade (k most : ℕ) (m : Made) : Type 0 where
    pub nodes : AreLight most m.nodes
    pub head : IsLightHead k m.head

  pub light-both : (k : ℕ) (a b : List Node) → AreLight k a → AreLight k b → AreLight k (a ++ b)
  light-both k [] b f g = g
  light-both k (Run s (Go m) ∷ []) b f g = absurd f
  light-both k (Run s (Go m) ∷ Run s' on ∷ a) b f g = absurd f
  light-both k (Run s (Go m) ∷ Apply to ∷ a) b f g = absurd f
  light-both k (Run s (Go m) ∷ Trap task to ∷ a) b f g = (f.0, light-both k a b f.1 g)
  light-both k (Run s (Branch t x y) ∷ a) b f g = (f.0, light-both k a b f.1 g)
  light-both k (Run s (Switch t ws o) ∷ a) b f g = (f.0, light-both k a b f.1 g)
  light-both k (Run s (Commit to) ∷ a) b f g = (f.0, light-both k a b f.1 g)
  light-both k (Trap task to ∷ a) b f g = absurd f
  light-both k (Apply to ∷ a) b f g = light-both k a b f g

  pub light-more : (k j : ℕ) (a : List Node) → k ≤ j → AreLight k a → AreLight j a
  light-more k j [] le f = tt
  light-more k j (Run s (Go m) ∷ []) le f = absurd f
  light-more k j (Run s (Go m) ∷ Run s' on ∷ a) le f = absurd f
  light-more k j (Run s (Go m) ∷ Apply to ∷ a) le f = absurd f
  light-more k j (Run s (Go m) ∷ Trap task to ∷ a) le f = ((let x = f.0 in omega (arith, x, le)), light-more k j a le f.1)
  light-more k j (Run s (Branch t x y) ∷ a) le f = ((let z = f.0 in omega (arith, z, le)), light-more k j a le f.1)
  light-more k j (Run s (Switch t ws o) ∷ a) le f = ((let z = f.0 in omega (arith, z, le)), light-more k j a le f.1)
  light-more k j (Run s (Commit to) ∷ a) le f = ((let z = f.0 in omega (arith, z, le)), light-more k j a le f.1)
  light-more k j (Trap task to ∷ a) le f = absurd f
  light-more k j (Apply to ∷ a) le f = light-more k j a le f

  next-more : (k j n m : ℕ) (x : Next) → m + k ≤ n + j → IsLightNext k n x → IsLightNext j m x
  next-more k j n m (Calls task to) le f = omega (arith, le, f)
  next-more k j n m (Leads (Go to)) le f = absurd f
  next-more k j n m (Leads (Branch t x y)) le f = omega (arith, le, f)
  next-more k j n m (Leads (Switch t ws o)) le f = omega (arith, le, f)
  next-more k j n m (Leads (Commit to)) le f = omega (arith, le, f)

  stms-both : (xs ys : List Stm) → stms_count d (xs ++ ys) ≡ stms_count d xs + stms_count d ys
  stms-both [] ys = omega arith
  stms-both (a ∷ xs) ys = (let e = stms-both xs ys in omega (arith, e))

  stms-all : (g : Segment) (xs : List Stm) → stms_count d (and_all g xs).statements ≡ stms_count d g.statements + stms_count d xs
  stms-all g [] = omega arith
  stms-all g (a ∷ xs) = (let e = stms-all (and_then g a) xs in let f = stms-both g.statements (a ∷ []) in omega (arith, e, f))

  nodes-light : (x : Next) (g : Segment) (n k : ℕ) → IsLightNext k (stms_count d g.statements) x → AreLight k (next_nodes x g n)
  nodes-light (Calls task to) g n k f = (f, tt)
  nodes-light (Leads (Go to)) g n k f = absurd f
  nodes-light (Leads (Branch t x y)) g n k f = (f, tt)
  nodes-light (Leads (Switch t ws o)) g n k f = (f, tt)
  nodes-light (Leads (Commit to)) g n k f = (f, tt)

  pub head-light : (h : Head) (g : Segment) (n k : ℕ) → g.statements ≡ [] → IsLightHead k h → AreLight k (head_nodes h g n)
  head-light h g n k none f =
      let e = stms-all g h.statements in
      let z = ap (stms_count d) none in
      nodes-light h.next (and_all g h.statements) n k (next-more k k (stms_count d h.statements) (stms_count d (and_all g h.statements).statements) h.next (omega (arith, e, z)) f)

  abbrev pub all_most : List Stm → ℕ
  all_most [] = 0
  all_most (a ∷ rest) = stm_most body a + all_most rest

  module _ (from most : ℕ) where
    placed-light : (xs : List Node) (h : Head) (k : ℕ) → k ≤ most → AreLight most xs → IsLightHead k h → AreLight most (placed from xs h)
    placed-light xs h k le f g =
        light-both most xs (head_nodes h still (number from xs)) f
        (head-light h still (number from xs) most refl (next-more k most (stms_count d h.statements) (stms_count d h.statements) h.next (omega (arith, le)) g))

    before-light : (a : Stm) (m : Made) (k : ℕ) → IsLightMade k most m → IsLightMade (k + stm_most body a) most (before a m)
    before-light a m k f = record {
      nodes = f.nodes;
      head = (let c = count-most body a in next-more k (k + stm_most body a) (stms_count d m.head.statements) (stm_count body a + stms_count d m.head.statements) m.head.next (omega (arith, c)) f.head);
    }

    made-more : (m : Made) (k j : ℕ) → k ≤ j → IsLightMade k most m → IsLightMade j most m
    made-more m k j le f = record {
      nodes = f.nodes;
      head = next-more k j (stms_count d m.head.statements) (stms_count d m.head.statements) m.head.next (omega (arith, le)) f.head;
    }

    pub record AreLightItems (n : ℕ) (items : Items) (x : ItemsMade) : Type 0 where
      pub nodes : AreLight most x.nodes
      pub ways : ways_count body x.ways ≤ n

    subject-most : (e : Exp) (items : Items) → items_can_act items ≡ true → subject_most body e items ≡ exp_count body e + 1
    subject-most e NoItems h = absurd (grind arith)
    subject-most e (Labelled es a others) h = refl
    subject-most e (Default a others) h = refl

    if-light : (t : Exp) (a b : Stm) (m : Made) (k : ℕ) → k + stm_most body (If t a b) ≤ most → IsLightMade k most m → IsLightMade (k + stm_most body a) most (split from a m) →
        IsLightMade (k + stm_most body b) most (split from b (record m { nodes = (split from a m).nodes })) → IsLightMade (k + stm_most body (If t a b)) most (split from (If t a b) m)
    if-light t a b m k le f x y = go (asks t || (can_act a || can_act b))
      where
        go : (q : Bool) → IsLightMade (k + (exp_count body t + 3 + (stm_most body a + stm_most body b))) most (if q then chosen from t (split from a m).head (split from b (record m { nodes = (split from a m).nodes })) else before (If t a b) m)
        go true =
            let second = split from b (record m { nodes = (split from a m).nodes }) in
            let p = placed-light second.nodes (split from a m).head (k + stm_most body a) (omega (arith, le)) y.nodes x.head in
            record {
              nodes = placed-light (placed from second.nodes (split from a m).head) second.head (k + stm_most body b) (omega (arith, le)) p y.head;
              head = omega arith;
            }
        go false = before-light (If t a b) m k f

    case-light : (e : Exp) (items : Items) (m : Made) (k : ℕ) → k + stm_most body (Case e items) ≤ most → IsLightMade k most m → AreLightItems (items_most body items) items (split_items from items m) →
        IsLightMade (k + items_most body items) most (split_default from items (record m { nodes = (split_items from items m).nodes })) → IsLightMade (k + stm_most body (Case e items)) most (split from (Case e items) m)
    case-light e items m k le f x y = go (items_can_act items) refl
      where
        go : (q : Bool) → items_can_act items ≡ q →
            IsLightMade (k + (subject_most body e items + items_most body items)) most
            (if q then switching from e (split_items from items m).ways (split_default from items (record m { nodes = (split_items from items m).nodes })) else before (Case e items) m)
        go true h =
            let s = subject-most e items h in
            let other = split_default from items (record m { nodes = (split_items from items m).nodes }) in
            let ways = x.ways in
            record {
              nodes = placed-light other.nodes other.head (k + items_most body items) (omega (arith, le)) y.nodes y.head;
              head = omega (arith, s, ways);
            }
        go false h = before-light (Case e items) m k f

    mutual
      pub split-light : (a : Stm) (m : Made) (k : ℕ) → k + stm_most body a ≤ most → IsLightMade k most m → IsLightMade (k + stm_most body a) most (split from a m)
      split-light Nop m k le f = made-more m k (k + 0) (omega arith) f
      split-light (Then a b) m k le f =
          let x = split-light b m k (omega (arith, le)) f in
          let y = split-light a (split from b m) (k + stm_most body b) (omega (arith, le)) x in
          made-more (split from a (split from b m)) (k + stm_most body b + stm_most body a) (k + (stm_most body a + stm_most body b)) (omega arith) y
      split-light (If t a b) m k le f =
          let x = split-light a m k (omega (arith, le)) f in
          let y = split-light b (record m { nodes = (split from a m).nodes }) k (omega (arith, le)) (record { nodes = x.nodes; head = f.head }) in
          if-light t a b m k le f x y
      split-light (Case e items) m k le f =
          let x = items-light items m k (omega (arith, le)) f in
          let y = default-light items (record m { nodes = (split_items from items m).nodes }) k (omega (arith, le)) (record { nodes = x.nodes; head = f.head }) in
          case-light e items m k le f x y
      split-light (For v start test step a) m k le f = before-light (For v start test step a) m k f
      split-light (Repeat count a) m k le f = before-light (Repeat count a) m k f
      split-light (Set t e) m k le f = before-light (Set t e) m k f
      split-light (Later t e) m k le f = before-light (Later t e) m k f
      split-light (Sys task) m k le f = record {
        nodes = placed-light m.nodes m.head k (omega (arith, le)) f.nodes f.head;
        head = omega arith;
      }

      items-light : (items : Items) (m : Made) (k : ℕ) → k + items_most body items ≤ most → IsLightMade k most m → AreLightItems (items_most body items) items (split_items from items m)
      items-light NoItems m k le f = record { nodes = f.nodes; ways = omega arith }
      items-light (Labelled es a others) m k le f =
          let x = split-light a m k (omega (arith, le)) f in
          let p = placed-light (split from a m).nodes (split from a m).head (k + stm_most body a) (omega (arith, le)) x.nodes x.head in
          let rest = items-light others (record m { nodes = placed from (split from a m).nodes (split from a m).head }) k (omega (arith, le)) (record { nodes = p; head = f.head }) in
          let ways = rest.ways in
          record { nodes = rest.nodes; ways = omega (arith, ways) }
      items-light (Default a others) m k le f =
          let rest = items-light others m k (omega (arith, le)) f in
          let ways = rest.ways in
          record { nodes = rest.nodes; ways = omega (arith, ways) }

      default-light : (items : Items) (m : Made) (k : ℕ) → k + items_most body items ≤ most → IsLightMade k most m → IsLightMade (k + items_most body items) most (split_default from items m)
      default-light NoItems m k le f = made-more m k (k + 0) (omega arith) f
      default-light (Labelled es a others) m k le f =
          made-more (split_default from others m) (k + items_most body others) (k + items_most body (Labelled es a others)) (omega arith) (default-light others m k (omega (arith, le)) f)
      default-light (Default a others) m k le f =
          made-more (split from a m) (k + stm_most body a) (k + items_most body (Default a others)) (omega arith) (split-light a m k (omega (arith, le)) f)

    all-light : (xs : List Stm) (m : Made) (k : ℕ) → k + all_most xs ≤ most → IsLightMade k most m → IsLightMade (k + all_most xs) most (split_all from xs m)
    all-light [] m k le f = made-more m k (k + 0) (omega arith) f
    all-light (a ∷ rest) m k le f =
        let x = all-light rest m k (omega (arith, le)) f in
        made-more (split from a (split_all from rest m)) (k + all_most rest + stm_most body a) (k + (stm_most body a + all_most rest)) (omega arith) (split-light a (split_all from rest m) (k + all_most rest) (omega (arith, le)) x)

    -- the nodes of a wave
    pub wave-light : (update : ℕ) (xs : List Stm) (g : Segment) → g.statements ≡ [] → 1 + all_most xs ≤ most → AreLight most (wave_nodes from update xs g)
    wave-light update xs g none le =
        let x = all-light xs (leading [] (Commit update)) 1 le (record { nodes = tt; head = omega arith }) in
        let m = wave_made from update xs in
        light-both most m.nodes (head_nodes m.head g (number from m.nodes)) x.nodes
        (head-light m.head g (number from m.nodes) most none (next-more (1 + all_most xs) most (stms_count d m.head.statements) (stms_count d m.head.statements) m.head.next (omega (arith, le)) x.head))
