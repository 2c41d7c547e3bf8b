-- What statements are split into meets what its statements and its nodes keep.
use Rattle.std.proofs.Common.{◌≡◌, ℕ, Bool, true, false, List, [], ◌∷◌, ◌++◌, refl}
use Rattle.std.specs.Prelude.{⊤, All, if◌then◌else◌}
use Rattle.std.proofs.lemmas.List.Elements.{All-nil, All-cons, All-head, All-tail}
use Rattle.vl_design.specs.Syntax.{Exp, Exps, Task, Stm, Nop, Then, If, Case, For, Repeat, Set, Later, Sys, Items, NoItems, Labelled, Default}
use Rattle.vl_design.specs.Laws.{can_act}
use Rattle.sub_nodes.specs.Nodes.{Segment, still, Way, Go, Commit, Node}
use Rattle.sub_nodes.specs.Code.{Next, Calls, Leads, Head, head_nodes, Made, before, leading, number, placed, chosen, switching, split, split_items, split_default, split_all, wave_made, wave_nodes}
use Rattle.sub_nodes.specs.Passing.{ItemsPass, Passes, MeetsOn}

-- the statement stands whole in a node: it holds no call, or is a loop
abbrev pub IsWhole : Stm → Type 0
IsWhole (For v start test step a) = ⊤
IsWhole (Repeat n a) = ⊤
IsWhole a = can_act a ≡ false

either_by : (P : Made → Type 0) (held : Bool) (x y : Made) → (held ≡ true → P x) → (held ≡ false → P y) → P (if held then x else y)
either_by P true x y f g = f refl
either_by P false x y f g = g refl

module _ (P : Stm → Type 0) (E : Exp → Type 0) (L : Exps → Type 0) (R : Task → Type 0) (W : Stm → Type 0) where
  -- a call whose node leads to another is made with its trap
  abbrev pub MeetsNext : Next → Type 0
  MeetsNext (Calls task to) = R task
  MeetsNext (Leads (Go to)) = ⊥
  MeetsNext (Leads on) = MeetsOn P E L R on

  pub record MeetsHead (h : Head) : Type 0 where
    pub statements : All W h.statements
    pub next : MeetsNext h.next

  module _ (from : ℕ) (N : List Node → Type 0) where
    -- W holds of what stands whole, and N of the nodes when one more is placed
    pub record Keeps : Type 0 where
      pub passes : Passes P E L R
      pub whole : (a : Stm) → P a → IsWhole a → W a
      pub none : N []
      pub place : (g : Segment) (xs : List Node) (h : Head) → g.statements ≡ [] → N xs → MeetsHead h → N (xs ++ head_nodes h g (number from xs))

    module _ (r : Keeps) where
      abbrev Meets : Made → Type 0
      Meets m = N m.nodes × MeetsHead m.head

      put : (xs : List Node) (h : Head) → N xs → MeetsHead h → N (placed from xs h)
      put xs h n f = r.place still xs h refl n f

      stays : (a : Stm) (m : Made) → P a → IsWhole a → Meets m → Meets (before a m)
      stays a m p w f = (f.0, record { statements = All-cons W a m.head.statements (r.whole a p w) f.1.statements; next = f.1.next })

      mutual
        split_meets : (x : Stm) (m : Made) → P x → Meets m → Meets (split from x m)
        split_meets Nop m p f = f
        split_meets (Then a b) m p f = let q = r.passes.parts a b p in split_meets a (split from b m) q.0 (split_meets b m q.1 f)
        split_meets (If t a b) m p f =
            let x = split from a m in
            let m' : Made = record m { nodes = x.nodes } in
            let y = split from b m' in
            let q = r.passes.branches t a b p in
            either_by Meets (can_act (If t a b)) (chosen from t x.head y) (before (If t a b) m)
            (λ e. (let fx = split_meets a m q.1 f in
            let fy = split_meets b m' q.2 (fx.0, f.1) in
            (put (placed from y.nodes x.head) y.head (put y.nodes x.head fy.0 fx.1) fy.1, record { statements = All-nil W; next = q.0 })))
            (λ e. stays (If t a b) m p e f)
        split_meets (Case s items) m p f =
            let i = split_items from items m in
            let m' : Made = record m { nodes = i.nodes } in
            let y = split_default from items m' in
            let q = r.passes.items s items p in
            either_by Meets (can_act (Case s items)) (switching from s i.ways y) (before (Case s items) m)
            (λ e. (let fi = items_meet items m q.1 f in
            let fy = default_meets items m' q.1 (fi.0, f.1) in
            (put y.nodes y.head fy.0 fy.1, record { statements = All-nil W; next = (q.0, fi.1) })))
            (λ e. stays (Case s items) m p e f)
        split_meets (For v start test step a) m p f = stays (For v start test step a) m p tt f
        split_meets (Repeat n a) m p f = stays (Repeat n a) m p tt f
        split_meets (Set t s) m p f = stays (Set t s) m p refl f
        split_meets (Later t s) m p f = stays (Later t s) m p refl f
        split_meets (Sys task) m p f = (put m.nodes m.head f.0 f.1, record { statements = All-nil W; next = r.passes.calls task p })

        items_meet : (items : Items) (m : Made) → ItemsPass P E L R items → Meets m → N (split_items from items m).nodes × All (λ w. L w.labels) (split_items from items m).ways
        items_meet NoItems m p f = (f.0, All-nil (λ (w : Way). L w.labels))
        items_meet (Labelled es a others) m p f =
            let x = split from a m in
            let m' : Made = record m { nodes = placed from x.nodes x.head } in
            let fx = split_meets a m p.1 f in
            let rest = items_meet others m' p.2 (put x.nodes x.head fx.0 fx.1, f.1) in
            (rest.0, All-cons (λ (w : Way). L w.labels) _ (split_items from others m').ways p.0 rest.1)
        items_meet (Default a others) m p f = items_meet others m p.1 f

        default_meets : (items : Items) (m : Made) → ItemsPass P E L R items → Meets m → Meets (split_default from items m)
        default_meets NoItems m p f = f
        default_meets (Labelled es a others) m p f = default_meets others m p.2 f
        default_meets (Default a others) m p f = split_meets a m p.0 f

      all_meet : (xs : List Stm) (m : Made) → All P xs → Meets m → Meets (split_all from xs m)
      all_meet [] m p f = f
      all_meet (x ∷ xs) m p f = split_meets x (split_all from xs m) (All-head P x xs p) (all_meet xs m (All-tail P x xs p) f)

      -- the nodes of a wave, which begins with nothing or with the rise
      pub wave_meets : (u : ℕ) (xs : List Stm) (g : Segment) → g.statements ≡ [] → All P xs → N (wave_nodes from u xs g)
      wave_meets u xs g e p =
          let m = wave_made from u xs in
          let f = all_meet xs (leading [] (Commit u)) p (r.none, record { statements = All-nil W; next = tt }) in
          r.place g m.nodes m.head e f.0 f.1
