-- Nonblocking assignments of a tenant's design name neither computed signals nor loop variables nor clocks.
use Rattle.std.proofs.Common.{◌≡◌, ◌⊎◌, ℕ, zero, suc, Bool, true, false, List, [], ◌∷◌, inl, inr, refl, ap}
use Rattle.std.specs.Prelude.{◌==◌, ◌||◌, slice_index_or}
use Rattle.std.specs.List.{list_any}
use Rattle.std.proofs.lemmas.Bool.{eqb-true}
use Rattle.ten_core.specs.vl_design.specs.Queue.{proc_at}
use Rattle.ten_core.specs.vl_design.specs.Reads.{target_writes, targets_write, stm_writes, items_write}
use Rattle.ten_core.specs.vl_design.specs.Syntax.{Target, Whole, WordAt, PickAt, SliceAt, Several, Targets, NoTargets, MoreTargets, Stm, Nop, Then, If, Case, For, Repeat, Set, Later, Sys, Items, NoItems, Labelled, Default, Proc, Flat}
use Rattle.ten_core.specs.vl_design.proofs.Unread.{or_false}
use Rattle.sub_runs.specs.vl_paths.specs.Nets.{IsNetStm, AreNetItems}
use Rattle.sub_runs.specs.vl_runs.specs.Computed.{computed_at}
use Rattle.sub_runs.specs.vl_runs.specs.NetsOfSettle.{is_memory, comb_at}
use Rattle.sub_runs.specs.vl_runs.proofs.Calming.{idle}
use Rattle.sub_split.specs.vl_sites.specs.Others.{other_at}
use Rattle.ten_core.specs.ten_form.specs.Delays.{stm_delays, items_delay, DelaysVariables}
use Rattle.ten_make.specs.Designs.{IsTenantDesign}
use Rattle.ten_make.proofs.Others.{none-writes}
use Rattle.ten_core.specs.vl_base.proofs.Booleans.{or_both_false as neither}

-- ---- of signals of which a statement writes none it delays none

module _ (p : ℕ → Bool) (k : ℕ) (marked : p k ≡ true) where
  abbrev is-it : ℕ → Bool
  is-it j = j == k

  other : (j : ℕ) → p j ≡ false → is-it j ≡ false
  other j h = at (j == k) refl
    where
      at : (b : Bool) → (j == k) ≡ b → b ≡ false
      at false e = refl
      at true e = let z : p j ≡ p k = ap p (eqb-true j k e) in let y : ⊥ = cc (marked, h, z) in absurd y

  mutual
    target-other : (t : Target) → target_writes p t ≡ false → target_writes is-it t ≡ false
    target-other (Whole j) h = other j h
    target-other (WordAt m a) h = other m h
    target-other (PickAt b i from width) h = target-other b h
    target-other (SliceAt b low width) h = target-other b h
    target-other (Several ts) h = targets-other ts h

    targets-other : (ts : Targets) → targets_write p ts ≡ false → targets_write is-it ts ≡ false
    targets-other NoTargets h = refl
    targets-other (MoreTargets t ts) h =
        let g = or_false (target_writes p t) (targets_write p ts) h in
        neither (target_writes is-it t) (targets_write is-it ts) (target-other t g.0) (targets-other ts g.1)

  mutual
    unwritten : (a : Stm) → stm_writes p a ≡ false → stm_delays is-it a ≡ false
    unwritten Nop h = refl
    unwritten (Then a b) h =
        let g = or_false (stm_writes p a) (stm_writes p b) h in
        neither (stm_delays is-it a) (stm_delays is-it b) (unwritten a g.0) (unwritten b g.1)
    unwritten (If t a b) h =
        let g = or_false (stm_writes p a) (stm_writes p b) h in
        neither (stm_delays is-it a) (stm_delays is-it b) (unwritten a g.0) (unwritten b g.1)
    unwritten (Case e items) h = items-unwritten items h
    unwritten (For j start test step a) h =
        let f = or_false (p j) (stm_writes p start || (stm_writes p step || stm_writes p a)) h in
        let g = or_false (stm_writes p start) (stm_writes p step || stm_writes p a) f.1 in
        let e = or_false (stm_writes p step) (stm_writes p a) g.1 in
        neither (stm_delays is-it start) (stm_delays is-it step || stm_delays is-it a) (unwritten start g.0)
        (neither (stm_delays is-it step) (stm_delays is-it a) (unwritten step e.0) (unwritten a e.1))
    unwritten (Repeat n a) h = unwritten a h
    unwritten (Set t e) h = refl
    unwritten (Later t e) h = target-other t h
    unwritten (Sys task) h = refl

    items-unwritten : (items : Items) → items_write p items ≡ false → items_delay is-it items ≡ false
    items-unwritten NoItems h = refl
    items-unwritten (Labelled es a others) h =
        let g = or_false (stm_writes p a) (items_write p others) h in
        neither (stm_delays is-it a) (items_delay is-it others) (unwritten a g.0) (items-unwritten others g.1)
    items-unwritten (Default a others) h =
        let g = or_false (stm_writes p a) (items_write p others) h in
        neither (stm_delays is-it a) (items_delay is-it others) (unwritten a g.0) (items-unwritten others g.1)

-- ---- a combinational process assigns at once

module _ (mem q : ℕ → Bool) where
  mutual
    at-once : (a : Stm) → IsNetStm mem a → stm_delays q a ≡ false
    at-once Nop h = refl
    at-once (Then a b) h = neither (stm_delays q a) (stm_delays q b) (at-once a h.0) (at-once b h.1)
    at-once (If t a b) h = neither (stm_delays q a) (stm_delays q b) (at-once a h.0) (at-once b h.1)
    at-once (Case e items) h = items-at-once items h
    at-once (For j start test step a) h = absurd h
    at-once (Repeat n a) h = absurd h
    at-once (Set t e) h = refl
    at-once (Later t e) h = absurd h
    at-once (Sys task) h = refl

    items-at-once : (items : Items) → AreNetItems mem items → items_delay q items ≡ false
    items-at-once NoItems h = refl
    items-at-once (Labelled es a others) h = neither (stm_delays q a) (items_delay q others) (at-once a h.0) (items-at-once others h.1)
    items-at-once (Default a others) h = neither (stm_delays q a) (items_delay q others) (at-once a h.0) (items-at-once others h.1)

-- ---- designs

none-delays : (q : ℕ → Bool) (procs : List Proc) → ((i : ℕ) → stm_delays q (slice_index_or procs i idle).body ≡ false) → list_any (λ (a : Proc). stm_delays q a.body) procs ≡ false
none-delays q [] h = refl
none-delays q (a ∷ procs) h =
    neither (stm_delays q a.body) (list_any (λ (b : Proc). stm_delays q b.body) procs) (h zero) (none-delays q procs (λ i. h (suc i)))

module _ (d : Flat) (order : List ℕ) (is : IsTenantDesign d order) where
  at-process : (k : ℕ) → (computed_at d.rows k ≡ true) ⊎ (other_at d.rows k ≡ true) → (i : ℕ) → stm_delays (λ j. j == k) (proc_at d i).body ≡ false
  at-process k (inr m) i = unwritten (other_at d.rows) k m (proc_at d i).body (none-writes (other_at d.rows) d.procs is.others.procs i)
  at-process k (inl m) i = of (comb_at d i) refl
    where
      of : (b : Bool) → comb_at d i ≡ b → stm_delays (λ j. j == k) (proc_at d i).body ≡ false
      of true e = at-once (is_memory d.rows) (λ j. j == k) (proc_at d i).body (is.checked.nets i e)
      of false e = unwritten (computed_at d.rows) k m (proc_at d i).body (is.nets.others i e)

  pub delays-variables : DelaysVariables d
  delays-variables k h = none-delays (λ j. j == k) d.procs (at-process k h)
