-- The statements of a wave's nodes are parts of the wave's statements.
use Rattle.std.proofs.Common.{◌≡◌, ℕ, suc, ◌+◌, ◌<◌, ◌≤◌, Bool, true, false, List, [], ◌∷◌, ◌++◌, length, Some, refl, sym, ◌∙◌, ap, subst, arith}
use Rattle.std.specs.Prelude.{⊤, ◌≢◌, ◌==◌, All, filter, slice_get, slice_index_or, if◌then◌else◌}
use Rattle.std.proofs.lemmas.Bool.{eqb-true, eq-eqb}
use Rattle.std.proofs.lemmas.List.Elements.{All-nil, All-cons, All-head, All-tail, All-append}
use Rattle.vl_sites.specs.vl_design.specs.declared.design.ProcKind.{ProcKind}
use Rattle.vl_sites.specs.vl_design.specs.Syntax.{Stm, Nop, Then, If, Case, For, Repeat, Set, Later, Sys, Items, NoItems, Labelled, Default, Proc}
use Rattle.vl_sites.specs.vl_design.specs.Alone.{blocks}
use Rattle.vl_sites.specs.vl_design.specs.Laws.{can_act}
use Rattle.vl_sites.specs.vl_design.proofs.Running.{some_is}
use Rattle.vl_sites.specs.vl_design.proofs.Acting.{Bodies, IsHereditary}
use Rattle.vl_runs.proofs.Calming.{idle}
use Rattle.sub_nodes.specs.Nodes.{Segment, still, and_then, WayOn, Commit, Node, Run, Trap, Apply}
use Rattle.sub_nodes.specs.Implements.{bodies}
use Rattle.sub_nodes.specs.Code.{HasFrom, Next, Calls, Leads, Head, and_all, next_nodes, head_nodes, Made, before, leading, number, placed, chosen, switching, split, split_items, split_default, split_all, wave_made, wave_nodes, fall_nodes}
use Rattle.sub_nodes.proofs.Coded.{either_made}

module _ (P : Stm → Type 0) (hereditary : IsHereditary P) where
  -- the node's statements, or its call, are of the kind
  abbrev pub NodeHas : Node → Type 0
  NodeHas (Run g on) = All P g.statements
  NodeHas (Trap task to) = P (Sys task)
  NodeHas (Apply to) = ⊤

  abbrev pub AllHave : List Node → Type 0
  AllHave [] = ⊤
  AllHave (x ∷ xs) = NodeHas x × AllHave xs

  have_both : (a b : List Node) → AllHave a → AllHave b → AllHave (a ++ b)
  have_both [] b f g = g
  have_both (x ∷ a) b f g = (f.0, have_both a b f.1 g)

  abbrev NextHas : Next → Type 0
  NextHas (Calls task to) = P (Sys task)
  NextHas (Leads on) = ⊤

  record HeadHas (h : Head) : Type 0 where
    pub statements : All P h.statements
    pub next : NextHas h.next

  record MadeHas (m : Made) : Type 0 where
    pub nodes : AllHave m.nodes
    pub head : HeadHas m.head

  all_has : (xs : List Stm) (g : Segment) → All P g.statements → All P xs → All P (and_all g xs).statements
  all_has [] g f h = f
  all_has (a ∷ xs) g f h =
      all_has xs (and_then g a) (All-append P g.statements (a ∷ []) f (All-cons P a [] (All-head P a xs h) (All-nil P))) (All-tail P a xs h)

  next_have : (next : Next) (g : Segment) (n : ℕ) → NextHas next → All P g.statements → AllHave (next_nodes next g n)
  next_have (Calls task to) g n k f = (f, (k, tt))
  next_have (Leads on) g n k f = (f, tt)

  head_have : (h : Head) (g : Segment) (n : ℕ) → HeadHas h → All P g.statements → AllHave (head_nodes h g n)
  head_have h g n k f = next_have h.next (and_all g h.statements) n k.next (all_has h.statements g f k.statements)

  before_has : (a : Stm) (m : Made) → P a → MadeHas m → MadeHas (before a m)
  before_has a m p k = record { nodes = k.nodes; head = record { statements = All-cons P a m.head.statements p k.head.statements; next = k.head.next } }

  leading_has : (nodes : List Node) (on : WayOn) → AllHave nodes → MadeHas (leading nodes on)
  leading_has nodes on f = record { nodes = f; head = record { statements = All-nil P; next = tt } }

  module _ (from : ℕ) where
    placed_have : (xs : List Node) (h : Head) → AllHave xs → HeadHas h → AllHave (placed from xs h)
    placed_have xs h f k = have_both xs (head_nodes h still (number from xs)) f (head_have h still (number from xs) k (All-nil P))

    mutual
      split_has : (x : Stm) → P x → (m : Made) → MadeHas m → MadeHas (split from x m)
      split_has Nop p m k = k
      split_has (Then a b) p m k = let q = hereditary.parts a b p in split_has a q.0 (split from b m) (split_has b q.1 m k)
      split_has (If t a b) p m k =
          let q = hereditary.branches t a b p in
          let x = split from a m in
          let fx = split_has a q.0 m k in
          let m' : Made = record m { nodes = x.nodes } in
          let y = split from b m' in
          let fy = split_has b q.1 m' (record { nodes = fx.nodes; head = k.head }) in
          either_made MadeHas (can_act (If t a b)) (chosen from t x.head y) (before (If t a b) m)
          (leading_has _ _ (placed_have (placed from y.nodes x.head) y.head (placed_have y.nodes x.head fy.nodes fx.head) fy.head))
          (before_has (If t a b) m p k)
      split_has (Case e items) p m k =
          let q = hereditary.items e items p in
          let i = split_items from items m in
          let m' : Made = record m { nodes = i.nodes } in
          let y = split_default from items m' in
          let fy = default_has items q m' (record { nodes = items_have items q m k; head = k.head }) in
          either_made MadeHas (can_act (Case e items)) (switching from e i.ways y) (before (Case e items) m)
          (leading_has _ _ (placed_have y.nodes y.head fy.nodes fy.head))
          (before_has (Case e items) m p k)
      split_has (For v start test step a) p m k = before_has (For v start test step a) m p k
      split_has (Repeat n a) p m k = before_has (Repeat n a) m p k
      split_has (Set t s) p m k = before_has (Set t s) m p k
      split_has (Later t s) p m k = before_has (Later t s) m p k
      split_has (Sys task) p m k = record { nodes = placed_have m.nodes m.head k.nodes k.head; head = record { statements = All-nil P; next = p } }

      items_have : (items : Items) → Bodies P items → (m : Made) → MadeHas m → AllHave (split_items from items m).nodes
      items_have NoItems q m k = k.nodes
      items_have (Labelled es a others) q m k =
          let x = split from a m in
          let fx = split_has a q.0 m k in
          items_have others q.1 (record m { nodes = placed from x.nodes x.head }) (record { nodes = placed_have x.nodes x.head fx.nodes fx.head; head = k.head })
      items_have (Default a others) q m k = items_have others q.1 m k

      default_has : (items : Items) → Bodies P items → (m : Made) → MadeHas m → MadeHas (split_default from items m)
      default_has NoItems q m k = k
      default_has (Labelled es a others) q m k = default_has others q.1 m k
      default_has (Default a others) q m k = split_has a q.0 m k

    splits_have : (xs : List Stm) → All P xs → (m : Made) → MadeHas m → MadeHas (split_all from xs m)
    splits_have [] h m k = k
    splits_have (x ∷ xs) h m k = split_has x (All-head P x xs h) (split_all from xs m) (splits_have xs (All-tail P x xs h) m k)

    pub wave_has : (u : ℕ) (xs : List Stm) (g : Segment) → All P xs → All P g.statements → AllHave (wave_nodes from u xs g)
    wave_has u xs g h f =
        let m = wave_made from u xs in
        let k = splits_have xs h (leading [] (Commit u)) (leading_has [] (Commit u) tt) in
        have_both m.nodes (head_nodes m.head g (number from m.nodes)) k.nodes (head_have m.head g (number from m.nodes) k.head f)

  pub falls_have : (n : ℕ) (ps : List Proc) → All P (bodies ps) → AllHave (fall_nodes n ps)
  falls_have n [] h = tt
  falls_have n (p ∷ ps) h = wave_has n 2 (bodies (p ∷ ps)) still h (All-nil P)

  -- where the nodes stand
  pub has_at : (nodes xs : List Node) (n m : ℕ) (x : Node) → HasFrom nodes n xs → AllHave xs → n ≤ m → m < n + length xs → slice_get nodes m ≡ Some x → NodeHas x
  has_at nodes [] n m x h f l r e = let z : ⊥ = omega arith in absurd z
  has_at nodes (y ∷ xs) n m x h f l r e = at (n == m) refl (λ k. has_at nodes xs (n + 1) m x h.1 f.1 k (omega arith) e)
    where
      at : (b : Bool) → (n == m) ≡ b → (n + 1 ≤ m → NodeHas x) → NodeHas x
      at true t k =
          let same : n ≡ m = eqb-true n m t in
          let z : y ≡ x = some_is (sym h.0 ∙ (ap (slice_get nodes) same ∙ e)) in
          subst NodeHas z f.0
      at false t k =
          let other : n ≢ m = λ s. (let y = eq-eqb n m s in cc) in
          k (omega (arith, other))

  -- the blocks of a kind
  pub blocks_have : (p : ProcKind → Bool) (ps : List Proc) → ((j : ℕ) → p (slice_index_or ps j idle).kind ≡ true → P (slice_index_or ps j idle).body) → All P (bodies (blocks p ps))
  blocks_have p [] h = All-nil P
  blocks_have p (x ∷ ps) h = go (p x.kind) refl (blocks_have p ps (λ j. h (suc j)))
    where
      go : (b : Bool) → p x.kind ≡ b → All P (bodies (blocks p ps)) → All P (bodies (if b then x ∷ filter (λ x. p x.kind) ps else filter (λ x. p x.kind) ps))
      go true e r = All-cons P x.body (bodies (blocks p ps)) (h 0 e) r
      go false e r = r
