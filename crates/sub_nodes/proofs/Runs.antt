-- The run of a design's table is the run alone, act by act.
use Rattle.std.proofs.Common.{◌≡◌, ℕ, zero, suc, true, false, List, Option, Some, None, refl, sym, ◌∙◌, ap, subst, inl, inr}
use Rattle.std.specs.Prelude.{if◌then◌else◌}
use Rattle.vl_design.specs.Syntax.{Task}
use Rattle.vl_design.specs.State.{State}
use Rattle.vl_design.specs.Functions.{scope_of}
use Rattle.vl_design.specs.Snapshots.{Snapshot}
use Rattle.vl_design.specs.Alone.{Origin, start, resumed}
use Rattle.vl_design.specs.Acts.{Point, Between, state_at, Begins, from_nothing, from_snapshot, After, begins, acts, Before}
use Rattle.vl_design.proofs.OncePerAct.{after_once}
use Rattle.sub_nodes.specs.Nodes.{Table}
use Rattle.sub_nodes.specs.Cycles.{Stage, settled, cycle, served}
use Rattle.sub_nodes.specs.Stands.{Stands, StandsAtTrap, first_stage, at_trap, Comes, cycles, serves, IsAt, CanRun}
use Rattle.sub_nodes.proofs.Beginning.{stands_none, trap_is}
use Rattle.sub_nodes.proofs.Cycles.{Stepped, cycle_steps, serve_steps}

module _ (o : Origin) (T : Table) (nets : State → List (List ℕ)) (r : CanRun o T nets) where
  no_trap : {i : Stage} {p : Point} → Stands T i p → at_trap T i ≡ false
  no_trap s = stands_none o.flat T r.table s

  first_by : (s : Option Snapshot) → o.resume ≡ s → (p : Point) × Begins o s p × Stands T (first_stage o T nets s) p
  first_by None e = (Between (start o.flat), from_nothing, record { state = refl; committed = refl; goes = (T.zero.update, r.table.zero.runs, (T.rise.first, r.table.zero.updates, refl)) })
  first_by (Some s) e =
      let calm = r.settle.resumed s e in
      (Between (record (resumed o.flat s) { state = settled o.flat o.files nets (resumed o.flat s).state; pending = calm.0 }), from_snapshot calm.1, record { state = refl; committed = refl; goes = refl })

  pub first_stands : (p : Point) × After o zero p × Stands T (first_stage o T nets o.resume) p
  first_stands = let f = first_by o.resume refl in (f.0, begins f.1, f.2)

  -- where a cycle leads, and after how many acts
  stepped_at : {c : ℕ} {i : Stage} → Stepped o T c i → IsAt o T (if at_trap T i then c else suc c) i
  stepped_at {c} {i} (inl a) = subst (λ b. IsAt o T (if b then c else suc c) i) (sym (no_trap a.2)) (inl (a.0, a.1, a.2))
  stepped_at {c} {i} (inr b) = subst (λ v. IsAt o T (if v then c else suc c) i) (sym (trap_is T b.3)) (inr (b.0, b.1, b.2, b.3))

  cycle_at : {c : ℕ} {i : Stage} → IsAt o T c i → i.state.finished ≡ false → at_trap T i ≡ false → Stepped o T c (cycle o.flat o.files nets T.nodes i)
  cycle_at {c} {i} (inl a) f h = cycle_steps o T nets r.settle i r.unrolled r.table a.1 (ap (λ s. s.finished) (sym a.2.state) ∙ f) a.2
  cycle_at {c} {i} (inr b) f h = let z : ◌≡◌ true false = sym (trap_is T b.3) ∙ h in let y : ⊥ = cc in absurd y

  serve_at : {c : ℕ} {i : Stage} → IsAt o T c i → at_trap T i ≡ true → IsAt o T (suc c) (served (scope_of o.flat o.files) T.nodes i)
  serve_at {c} {i} (inl a) h = let z : ◌≡◌ true false = sym h ∙ no_trap a.2 in let y : ⊥ = cc in absurd y
  serve_at {c} {i} (inr b) h = inl (serve_steps o T i b.2 b.3)

  pub comes_at : {c : ℕ} {i : Stage} → Comes o T nets c i → IsAt o T c i
  comes_at Comes.begins = inl first_stands
  comes_at (cycles {c = c} {i = i} x f h) = stepped_at (cycle_at (comes_at x) f h)
  comes_at (serves {c = c} {i = i} x h) = serve_at (comes_at x) h

  -- the run of the table comes to this point
  pub record ComesTo (c : ℕ) (p : Point) : Type 0 where
    pub stage : Stage
    pub comes : Comes o T nets c stage
    pub stands : Stands T stage p

  come_to : {c : ℕ} {p z : Point} {i : Stage} → Comes o T nets c i → After o c z → Stands T i z → After o c p → ComesTo c p
  come_to {i = i} x y s w = record { stage = i; comes = x; stands = subst (Stands T i) (after_once o y w) s }

  next_comes : {c : ℕ} {p w : Point} (i : Stage) → Comes o T nets c i → After o c p → (state_at p).finished ≡ false → Stands T i p → After o (suc c) w → ComesTo (suc c) w
  next_comes {c} {p} {w} i x y f s z = at (cycle_steps o T nets r.settle i r.unrolled r.table y f s)
    where
      j : Stage
      j = cycle o.flat o.files nets T.nodes i

      comes : Comes o T nets (if at_trap T j then c else suc c) j
      comes = cycles x (ap (λ s. s.finished) s.state ∙ f) (no_trap s)

      at : Stepped o T c j → ComesTo (suc c) w
      at (inl a) = come_to (subst (λ b. Comes o T nets (if b then c else suc c) j) (no_trap a.2) comes) a.1 a.2 z
      at (inr b) =
          let h = trap_is T b.3 in
          let there : Comes o T nets c j = subst (λ v. Comes o T nets (if v then c else suc c) j) h comes in
          let k = serve_steps o T j b.2 b.3 in
          come_to (serves there h) k.1 k.2 z

  -- after a cycle: the next act is done, or it is a call; and this is told by the node
  pub cycle_acts : {c : ℕ} {p : Point} (i : Stage) → After o c p → (state_at p).finished ≡ false → Stands T i p → at_trap T (cycle o.flat o.files nets T.nodes i) ≡ false
      → (z : Point) × After o (suc c) z × Stands T (cycle o.flat o.files nets T.nodes i) z
  cycle_acts {c} {p} i x f s h = at (cycle_steps o T nets r.settle i r.unrolled r.table x f s)
    where
      at : Stepped o T c (cycle o.flat o.files nets T.nodes i) → (z : Point) × After o (suc c) z × Stands T (cycle o.flat o.files nets T.nodes i) z
      at (inl a) = (a.0, a.1, a.2)
      at (inr b) = let z : ◌≡◌ true false = sym (trap_is T b.3) ∙ h in let y : ⊥ = cc in absurd y

  pub cycle_traps : {c : ℕ} {p : Point} (i : Stage) → After o c p → (state_at p).finished ≡ false → Stands T i p → at_trap T (cycle o.flat o.files nets T.nodes i) ≡ true
      → (task : Task) × (z : Point) × Before o (suc c) task z × StandsAtTrap T task (cycle o.flat o.files nets T.nodes i) z
  cycle_traps {c} {p} i x f s h = at (cycle_steps o T nets r.settle i r.unrolled r.table x f s)
    where
      at : Stepped o T c (cycle o.flat o.files nets T.nodes i) → (task : Task) × (z : Point) × Before o (suc c) task z × StandsAtTrap T task (cycle o.flat o.files nets T.nodes i) z
      at (inl a) = let z : ◌≡◌ true false = sym h ∙ no_trap a.2 in let y : ⊥ = cc in absurd y
      at (inr b) = b

  pub call_traps : {c : ℕ} {p z : Point} {task : Task} (i : Stage) → After o c p → (state_at p).finished ≡ false → Stands T i p → Before o (suc c) task z → at_trap T (cycle o.flat o.files nets T.nodes i) ≡ true
  call_traps {c} {p} {z} {task} i x f s b = at (cycle_steps o T nets r.settle i r.unrolled r.table x f s)
    where
      at : Stepped o T c (cycle o.flat o.files nets T.nodes i) → at_trap T (cycle o.flat o.files nets T.nodes i) ≡ true
      at (inl a) = absurd (a.3 task z b)
      at (inr k) = trap_is T k.3

  pub each_comes : {c : ℕ} {p : Point} → After o c p → ComesTo c p
  each_comes (begins b) = let f = first_stands in come_to Comes.begins f.1 f.2 (begins b)
  each_comes (acts x f a) = let h = each_comes x in next_comes h.stage h.comes x f h.stands (acts x f a)
