-- To a call's node leads just the segment before it.
use Rattle.std.proofs.Common.{◌≡◌, ◌≢◌, ℕ, zero, suc, ◌+◌, ◌<◌, ◌≤◌, Bool, true, false, List, [], ◌∷◌, ◌++◌, length, Option, Some, None, refl, sym, ap, subst, arith, ◌∙◌, inl, inr}
use Rattle.std.specs.Prelude.{All, slice_get}
use Rattle.std.proofs.lemmas.Bool.{cases_lt}
use Rattle.std.proofs.lemmas.Option.{slice_get_within}
use Rattle.vl_design.specs.Syntax.{Flat}
use Rattle.vl_design.proofs.Running.{some_is}
use Rattle.sub_nodes.specs.Nodes.{Segment, still, Go, Branch, Switch, Commit, Node, Run, Trap, Apply}
use Rattle.sub_nodes.specs.Implements.{bodies}
use Rattle.sub_nodes.specs.Code.{table_of}
use Rattle.sub_nodes.specs.Cycles.{is_trap, rises}
use Rattle.sub_nodes.specs.Shape.{IsClosed}
use Rattle.sub_nodes.proofs.Beginning.{impls_run}
use Rattle.sub_nodes.proofs.Coded.{table_implements}
use Rattle.sub_nodes.proofs.Rising.{rise_rises}
use Rattle.sub_nodes.specs.Pairs.{ArePaired}
use Rattle.sub_nodes.specs.Early.{next_of, early_from}
use Rattle.sub_nodes.proofs.Pairing.{table_paired}
use Rattle.sub_nodes.proofs.Leading.{each_target, all_next, updates_next, front_at, some_falls, falls, from, up, down, first, over, sizes, zero_closed, rise_closed, fall_closed}

-- a segment that goes to a call stands right before this node
record Behind (nodes : List Node) (k : ℕ) : Type 0 where
  pub at : ℕ
  pub next : k ≡ suc at
  pub segment : Segment
  pub to : ℕ
  pub there : slice_get nodes at ≡ Some (Run segment (Go to))

later : (x : Node) (xs : List Node) (k : ℕ) → Behind xs k → Behind (x ∷ xs) (suc k)
later x xs k b = record { at = suc b.at; next = ap suc b.next; segment = b.segment; to = b.to; there = b.there }

before_trap : (n : ℕ) (xs : List Node) (k : ℕ) → ArePaired n xs → is_trap (slice_get xs k) ≡ true → Behind xs k
before_trap n [] k f h = let z : ⊥ = cc in absurd z
before_trap n (Run s (Go i) ∷ []) k f h = absurd f
before_trap n (Run s (Go i) ∷ Run s' on ∷ a) k f h = absurd f
before_trap n (Run s (Go i) ∷ Apply to ∷ a) k f h = absurd f
before_trap n (Run s (Go i) ∷ Trap task to ∷ a) zero f h = let z : ⊥ = cc in absurd z
before_trap n (Run s (Go i) ∷ Trap task to ∷ a) (suc zero) f h = record { at = 0; next = refl; segment = s; to = i; there = refl }
before_trap n (Run s (Go i) ∷ Trap task to ∷ a) (suc (suc k)) f h =
    later (Run s (Go i)) (Trap task to ∷ a) (suc k) (later (Trap task to) a k (before_trap (n + 2) a k f.1 h))
before_trap n (Run s (Branch t x y) ∷ a) zero f h = let z : ⊥ = cc in absurd z
before_trap n (Run s (Branch t x y) ∷ a) (suc k) f h = later (Run s (Branch t x y)) a k (before_trap (n + 1) a k f h)
before_trap n (Run s (Switch t ws o) ∷ a) zero f h = let z : ⊥ = cc in absurd z
before_trap n (Run s (Switch t ws o) ∷ a) (suc k) f h = later (Run s (Switch t ws o)) a k (before_trap (n + 1) a k f h)
before_trap n (Run s (Commit to) ∷ a) zero f h = let z : ⊥ = cc in absurd z
before_trap n (Run s (Commit to) ∷ a) (suc k) f h = later (Run s (Commit to)) a k (before_trap (n + 1) a k f h)
before_trap n (Trap task to ∷ a) k f h = absurd f
before_trap n (Apply to ∷ a) zero f h = let z : ⊥ = cc in absurd z
before_trap n (Apply to ∷ a) (suc k) f h = later (Apply to) a k (before_trap (n + 1) a k f h)

-- the node is no segment that comes to a call
abbrev pub IsNoGo : Node → Type 0
IsNoGo x = (g : Segment) (m : ℕ) → x ≡ Run g (Go m) → ⊥

module _ (d : Flat) where
  -- the node of this number is no call's
  abbrev pub IsNoCall : ℕ → Type 0
  IsNoCall m = is_trap (slice_get (table_of d).nodes m) ≡ false

  rise_no_call : IsNoCall (table_of d).rise.first
  rise_no_call = at (slice_get (table_of d).nodes (table_of d).rise.first) (rise_rises d)
    where
      at : (x : Option Node) → rises x ≡ true → is_trap x ≡ false
      at None h = let z : ⊥ = cc in absurd z
      at (Some (Run g on)) h = refl
      at (Some (Trap task to)) h = let z : ⊥ = cc in absurd z
      at (Some (Apply to)) h = let z : ⊥ = cc in absurd z

  fall_no_call : falls d ≢ [] → IsNoCall (table_of d).fall.first
  fall_no_call f = (impls_run (table_of d).nodes 2 (bodies (falls d)) still (table_of d).fall.first ((table_implements d).fall f).runs).none

  -- a target of a node that is behind it is no call's, but where the node goes there
  target_no_call : (n m : ℕ) (x : Node) → slice_get (table_of d).nodes n ≡ Some x → IsNoGo x → (is_trap (slice_get (table_of d).nodes m) ≡ true → m ≡ n + 1) → IsNoCall m
  target_no_call n m x h other f = at (is_trap (slice_get (table_of d).nodes m)) refl
    where
      at : (b : Bool) → is_trap (slice_get (table_of d).nodes m) ≡ b → b ≡ false
      at true e =
          let b = before_trap 0 (table_of d).nodes m (table_paired d) e in
          let next = f e in
          let behind = b.next in
          let same : b.at ≡ n = omega arith in
          let there : slice_get (table_of d).nodes n ≡ Some (Run b.segment (Go b.to)) = subst (λ k. slice_get (table_of d).nodes k ≡ Some (Run b.segment (Go b.to))) same b.there in
          absurd (other b.segment b.to (some_is (sym h ∙ there)))
      at false e = refl

  wave_no_call : (u low high to n : ℕ) (x : Node) → IsClosed (table_of d).nodes u low high → slice_get (table_of d).nodes u ≡ Some (Apply to) → low ≤ n → n < high
      → slice_get (table_of d).nodes n ≡ Some x → IsNoGo x → All IsNoCall (next_of x)
  wave_no_call u low high to n x c update l r h other =
      let none : IsNoCall u = ap is_trap update in
      all_next IsNoCall x (each_target IsNoCall x (λ m t. target_no_call n m x h other (c.traps n m x l r h t)))
      (λ m g e. subst IsNoCall (sym (c.ends n m g l r (subst (λ y. slice_get (table_of d).nodes n ≡ Some y) e h))) none)
      (λ m e. absurd (c.none n m l r (subst (λ y. slice_get (table_of d).nodes n ≡ Some y) e h)))

  over_no_call : (n : ℕ) (x : Node) → n < from d → slice_get (table_of d).nodes n ≡ Some x → All IsNoCall (next_of x)
  over_no_call n x l h =
      let T = table_of d in
      let r : n < length (over d) = (let e = (sizes d).over in omega arith) in
      front_at (λ y. All IsNoCall (next_of y)) (over d) (up d ++ (down d ++ first d)) n x (updates_next IsNoCall (falls d) T.rise.first T.fall.first rise_no_call fall_no_call) r h

  -- a node leads to no call's, unless it is a segment that comes to a call
  pub no_call_next : (n : ℕ) (x : Node) → slice_get (table_of d).nodes n ≡ Some x → IsNoGo x → All IsNoCall (next_of x)
  no_call_next n x h other =
      let is = table_implements d in
      let e = (sizes d).early in
      elim (cases_lt n (from d)) [
        | inl a ↦ over_no_call n x a h
        | inr a ↦ elim (cases_lt n (from d + length (up d))) [
          | inl b ↦ wave_no_call 1 (from d) (from d + length (up d)) _ n x (rise_closed d) is.rise.updates a b h other
          | inr b ↦ elim (cases_lt n (early_from d)) [
            | inl c ↦
                let f = some_falls (from d + length (up d)) (falls d) (omega (arith, e)) in
                wave_no_call 2 (from d + length (up d)) (early_from d) _ n x (fall_closed d f) (is.fall f).updates b c h other
            | inr c ↦ wave_no_call 0 (early_from d) (length (table_of d).nodes) _ n x (zero_closed d) is.zero.updates c (slice_get_within (table_of d).nodes n x h) h other
          ]
        ]
      ]
