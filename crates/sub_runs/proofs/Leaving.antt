-- With each cycle and each served call of a wave fewer are left.
use Rattle.std.proofs.Common.{◌≡◌, ℕ, ◌+◌, ◌*◌, ◌<◌, ◌≤◌, Bool, true, false, List, [], ◌∷◌, length, Option, Some, None, refl, sym, ◌∙◌, ap, subst, arith, length-append, ◌⊎◌, inl, inr}
use Rattle.std.specs.Prelude.{◌==◌, All, if◌then◌else◌, slice_get, slice_index_or}
use Rattle.std.specs.List.{list_any}
use Rattle.std.proofs.lemmas.Bool.{lt-leb, le-leb, eq-eqb, ne_eqb, cases_lt}
use Rattle.std.proofs.lemmas.List.Elements.{All-nil, All-cons}
use Rattle.std.proofs.lemmas.List.Folds.{list_any_at}
use Rattle.vl_sites.specs.vl_design.specs.Syntax.{Stm, Task}
use Rattle.vl_sites.specs.vl_design.proofs.Running.{some_is}
use Rattle.sub_nodes.specs.Nodes.{Segment, WayOn, Go, Branch, Switch, Commit, Node, Run, Trap, Apply, Table}
use Rattle.sub_nodes.specs.Code.{HasFrom, Next, Calls, Leads, and_all, next_nodes, head_nodes, number, wave_made, wave_nodes, wave_first}
use Rattle.sub_nodes.specs.Cycles.{is_trap, rises}
use Rattle.sub_nodes.specs.Shape.{targets, leads_to, IsClosed}
use Rattle.sub_nodes.proofs.Coded.{has_back}
use Rattle.sub_nodes.specs.Early.{next_of}
use Rattle.sub_runs.specs.Left.{order, left_at, left}
use Rattle.sub_nodes.proofs.Falling.{AllBelow, NodeFalls, AllFall}
use Rattle.vl_sites.specs.vl_base.proofs.Booleans.{false_by as not_true}

-- ---- lists

-- what holds of the nodes that a node leads to, by more that is known of them
with_leads : (P Q : ℕ → Type 0) (xs : List ℕ) → All P xs → ((m : ℕ) → list_any (λ k. k == m) xs ≡ true → P m → Q m) → All Q xs
with_leads P Q xs f g = λ k d l. (let m = slice_index_or xs k d in g m (list_any_at (λ j. j == m) xs k d l (eq-eqb m m refl)) (f k d l))

pub fall_at : (nodes : List Node) (xs : List Node) (n m : ℕ) (x : Node) → HasFrom nodes n xs → AllFall n xs → n ≤ m → m < n + length xs
    → slice_get nodes m ≡ Some x → NodeFalls m x
fall_at nodes [] n m x h f l r e = let z : ⊥ = omega arith in absurd z
fall_at nodes (y ∷ xs) n m x h f l r e = at (cases_lt n m) (λ k. fall_at nodes xs (n + 1) m x h.1 f.1 (omega arith) (omega arith) e)
  where
    at : (n < m) ⊎ (m ≤ n) → (n < m → NodeFalls m x) → NodeFalls m x
    at (inl k) g = g k
    at (inr k) g =
        let same : n ≡ m = omega arith in
        let z : y ≡ x = some_is (sym h.0 ∙ (ap (slice_get nodes) same ∙ e)) in
        subst (λ k. NodeFalls k x) same (subst (NodeFalls n) z f.0)

-- of the nodes with which a wave begins only the first is a segment's
module _ (nodes : List Node) where
  next_run : (next : Next) (g s : Segment) (n k : ℕ) (on : WayOn) → HasFrom nodes n (next_nodes next g n) → k < n + length (next_nodes next g n)
      → slice_get nodes k ≡ Some (Run s on) → k ≤ n
  next_run (Calls task to) g s n k on h l e = at (cases_lt n k)
    where
      at : (n < k) ⊎ (k ≤ n) → k ≤ n
      at (inl j) =
          let same : n + 1 ≡ k = omega arith in
          let z : ◌≡◌ (Some (Trap task to)) (Some (Run s on)) = sym h.1.0 ∙ (ap (slice_get nodes) same ∙ e) in
          let y : ◌≡◌ true false = ap is_trap z in
          let w : ⊥ = cc in absurd w
      at (inr j) = j
  next_run (Leads way) g s n k on h l e = omega arith

  pub run_within : (n u : ℕ) (xs : List Stm) (g s : Segment) (k : ℕ) (on : WayOn) → HasFrom nodes n (wave_nodes n u xs g)
      → k < n + length (wave_nodes n u xs g) → slice_get nodes k ≡ Some (Run s on) → k ≤ wave_first n u xs
  run_within n u xs g s k on h l e =
      let m = wave_made n u xs in
      let f = number n m.nodes in
      let heads = head_nodes m.head g f in
      let len = length-append m.nodes heads in
      next_run m.head.next (and_all g m.head.statements) s f k on (has_back nodes n m.nodes heads h) (omega (arith, len)) e

-- ---- the order of nodes

module _ (T : Table) where
  pub order_rise : (n : ℕ) → n ≤ T.rise.first → order T n ≡ 2 * (length T.nodes + n)
  order_rise n h = rw (le-leb n T.rise.first h) refl

  pub order_other : (n : ℕ) → T.rise.first < n → order T n ≡ 2 * n
  order_other n h = rw (lt-leb n T.rise.first h) refl

  either_left : (b : Bool) (k : ℕ) → (if b then 0 else k + 1) ≤ k + 1
  either_left true k = omega arith
  either_left false k = omega arith

  pub none_left : (n : ℕ) (x : Option Node) → rises x ≡ true → left_at T n x ≡ 0
  none_left n None h = let z : ⊥ = cc in absurd z
  none_left n (Some (Run g on)) h = rw h refl
  none_left n (Some (Trap task to)) h = let z : ⊥ = cc in absurd z
  none_left n (Some (Apply to)) h = let z : ⊥ = cc in absurd z

  pub run_left : (n : ℕ) (g : Segment) (on : WayOn) → rises (Some (Run g on)) ≡ false → slice_get T.nodes n ≡ Some (Run g on) → left T n ≡ order T n + 1
  run_left n g on h e = ap (left_at T n) e ∙ rw h refl

  apply_by : (b : Bool) (k : ℕ) → 1 ≤ k → (if b then 1 else 2 * k) ≤ 2 * k
  apply_by true k h = omega arith
  apply_by false k h = omega arith

  pub apply_left : (n to : ℕ) → slice_get T.nodes n ≡ Some (Apply to) → 1 ≤ length T.nodes → left T n ≤ 2 * length T.nodes
  apply_left n to e h = subst (λ x. left_at T n x ≤ 2 * length T.nodes) (sym e) (apply_by (to == T.rise.first) (length T.nodes) h)

  pub apply_rise : (n : ℕ) → slice_get T.nodes n ≡ Some (Apply T.rise.first) → left T n ≡ 1
  apply_rise n e = ap (left_at T n) e ∙ rw (eq-eqb T.rise.first T.rise.first refl) refl

  pub apply_other : (n to : ℕ) → slice_get T.nodes n ≡ Some (Apply to) → T.rise.first < to → left T n ≡ 2 * length T.nodes
  apply_other n to e h =
      let other : (to == T.rise.first) ≡ false = ne_eqb to T.rise.first (λ s. (let z : ⊥ = omega arith in z)) in
      ap (left_at T n) e ∙ rw other refl

  -- these nodes are a wave's, with that of number u as its update
  pub record IsWave (u low high : ℕ) : Type 0 where
    pub closed : IsClosed T.nodes u low high
    pub falls : (n : ℕ) (x : Node) → low ≤ n → n < high → slice_get T.nodes n ≡ Some x → NodeFalls n x
    pub orders : (n m : ℕ) (g : Segment) (on : WayOn) → n < high → slice_get T.nodes n ≡ Some (Run g on) → low ≤ m → m < n → order T m + 2 ≤ order T n
    pub ends : (n : ℕ) (g : Segment) (on : WayOn) → low ≤ n → n < high → slice_get T.nodes n ≡ Some (Run g on) → left T u ≤ order T n

  -- a node that comes to a trap has this right behind it
  abbrev pub Paired : Type 0
  Paired = (n m : ℕ) (g : Segment) → slice_get T.nodes n ≡ Some (Run g (Go m)) → (m ≡ n + 1) × ((task : Task) × (to : ℕ) × (slice_get T.nodes m ≡ Some (Trap task to)))

  abbrev pub Lowers : ℕ → ℕ → Type 0
  Lowers n m = left T m < left T n

  module _ (u low high : ℕ) (w : IsWave u low high) (pairs : Paired) where
    pub plain_left : (m : ℕ) (x : Option Node) → low ≤ m → m < high → slice_get T.nodes m ≡ x → is_trap x ≡ false → left_at T m x ≤ order T m + 1
    plain_left m None l r e h = omega arith
    plain_left m (Some (Run g on)) l r e h = either_left g.rises (order T m)
    plain_left m (Some (Trap task to)) l r e h = let z : ⊥ = cc in absurd z
    plain_left m (Some (Apply to)) l r e h = absurd (w.closed.none m to l r e)

    -- a smaller node to which one leads is no trap
    pub target_left : (n m : ℕ) (x : Node) → low ≤ n → n < high → slice_get T.nodes n ≡ Some x → leads_to x m ≡ true → m < n → left T m ≤ order T m + 1
    target_left n m x l r e t b =
        let i = w.closed.inside n m x l r e t in
        let plain : is_trap (slice_get T.nodes m) ≡ false = not_true (is_trap (slice_get T.nodes m)) (λ h. (let k : m ≡ n + 1 = w.closed.traps n m x l r e t h in omega arith)) in
        plain_left m (slice_get T.nodes m) i.0 i.1 refl plain

    -- the branches of a choice
    choice_lowers : (n : ℕ) (g : Segment) (on : WayOn) → low ≤ n → n < high → slice_get T.nodes n ≡ Some (Run g on) → rises (Some (Run g on)) ≡ false
        → AllBelow n (targets (Run g on)) → All (Lowers n) (targets (Run g on))
    choice_lowers n g on l r e h f =
        with_leads (λ m. m < n) (Lowers n) (targets (Run g on)) f
        (λ m t b. (let here = run_left n g on h e in
        let there = target_left n m (Run g on) l r e t b in
        let i = (w.closed.inside n m (Run g on) l r e t).0 in
        let k = w.orders n m g on r e i b in
        omega arith))

    self_leads : (to : ℕ) → list_any (λ k. k == to) (to ∷ []) ≡ true
    self_leads to = rw (eq-eqb to to refl) refl

    one_lowers : (n to : ℕ) → Lowers n to → All (Lowers n) (to ∷ [])
    one_lowers n to f = All-cons (Lowers n) to [] f (All-nil (Lowers n))

    go_lowers : (n m : ℕ) (g : Segment) → low ≤ n → n < high → slice_get T.nodes n ≡ Some (Run g (Go m)) → rises (Some (Run g (Go m))) ≡ false → Lowers n m
    go_lowers n m g l r e h =
        let p = pairs n m g e in
        let to = p.1.1 in
        let here = run_left n g (Go m) h e in
        let there : left T m ≡ order T to + 2 = ap (left_at T m) p.1.2 in
        let i = w.closed.inside n m (Run g (Go m)) l r e (self_leads m) in
        let f : to + 1 < m = w.falls m (Trap p.1.0 to) i.0 i.1 p.1.2 in
        let j = w.closed.inside m to (Trap p.1.0 to) i.0 i.1 p.1.2 (self_leads to) in
        let next : m ≡ n + 1 = p.0 in
        let b : to < n = omega arith in
        let k = w.orders n to g (Go m) r e j.0 b in
        omega arith

    trap_lowers : (n to : ℕ) (task : Task) → low ≤ n → n < high → slice_get T.nodes n ≡ Some (Trap task to) → Lowers n to
    trap_lowers n to task l r e =
        let here : left T n ≡ order T to + 2 = ap (left_at T n) e in
        let f : to + 1 < n = w.falls n (Trap task to) l r e in
        let there = target_left n to (Trap task to) l r e (self_leads to) (omega arith) in
        omega arith

    end_lowers : (n to : ℕ) (g : Segment) → low ≤ n → n < high → slice_get T.nodes n ≡ Some (Run g (Commit to)) → rises (Some (Run g (Commit to))) ≡ false
        → Lowers n to
    end_lowers n to g l r e h =
        let here = run_left n g (Commit to) h e in
        let k = w.ends n g (Commit to) l r e in
        let same : to ≡ u = w.closed.ends n to g l r e in
        let there : left T to ≡ left T u = ap (left T) same in
        omega arith

    pub wave_lowers : (n : ℕ) (x : Node) → low ≤ n → n < high → slice_get T.nodes n ≡ Some x → rises (Some x) ≡ false → All (Lowers n) (next_of x)
    wave_lowers n (Run g (Go m)) l r e h = one_lowers n m (go_lowers n m g l r e h)
    wave_lowers n (Run g (Branch t a b)) l r e h = choice_lowers n g (Branch t a b) l r e h (w.falls n (Run g (Branch t a b)) l r e)
    wave_lowers n (Run g (Switch s ways o)) l r e h = choice_lowers n g (Switch s ways o) l r e h (w.falls n (Run g (Switch s ways o)) l r e)
    wave_lowers n (Run g (Commit to)) l r e h = one_lowers n to (end_lowers n to g l r e h)
    wave_lowers n (Trap task to) l r e h = one_lowers n to (trap_lowers n to task l r e)
    wave_lowers n (Apply to) l r e h = absurd (w.closed.none n to l r e)
