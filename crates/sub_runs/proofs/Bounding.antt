-- Each tick of a run of a design's table ends after few acts.
use Rattle.std.proofs.Common.{◌≡◌, ℕ, zero, suc, ◌+◌, ◌*◌, ◌<◌, ◌≤◌, Bool, true, false, List, [], ◌∷◌, Option, Some, None, refl, sym, ◌∙◌, ap, subst, arith}
use Rattle.std.specs.Prelude.{All, if◌then◌else◌, length, slice_get}
use Rattle.std.proofs.Math.Nat.{mul-add, mul-one}
use Rattle.vl_sites.specs.vl_base.specs.declared.files.File.{File}
use Rattle.vl_sites.specs.vl_design.specs.Syntax.{Flat}
use Rattle.vl_sites.specs.vl_design.specs.Width.{Scope}
use Rattle.vl_sites.specs.vl_design.specs.State.{State}
use Rattle.vl_sites.specs.vl_design.specs.Functions.{scope_of}
use Rattle.vl_sites.specs.vl_design.specs.Snapshots.{Snapshot}
use Rattle.vl_sites.specs.vl_design.specs.Alone.{Origin}
use Rattle.sub_nodes.specs.Nodes.{Node, Run, Trap, Apply}
use Rattle.sub_nodes.specs.Code.{table_of}
use Rattle.sub_nodes.specs.Cycles.{Stage, is_trap, rises, cycled, cycle, served_by, served}
use Rattle.sub_nodes.specs.Stands.{at_trap, first_stage, Comes, begins, cycles, serves}
use Rattle.sub_nodes.specs.Early.{next_of}
use Rattle.sub_nodes.proofs.Leading.{all_within, firsts_within}
use Rattle.sub_runs.specs.Left.{left, most_left}
use Rattle.sub_runs.proofs.Leaving.{Lowers}
use Rattle.sub_runs.proofs.Tabling.{none_rising, each_lowers, all_few}
use Rattle.sub_runs.proofs.Cycling.{next_in, served_in, cycle_ticks, served_ticks}

-- ---- a cycle, and a served call

-- a node of a list is one
there : (nodes : List Node) (n : ℕ) → n < length nodes → (x : Node) × (slice_get nodes n ≡ Some x)
there [] n h = let z : ⊥ = omega arith in absurd z
there (x ∷ xs) zero h = (x, refl)
there (x ∷ xs) (suc n) h = there xs n (omega arith)

module _ (d : Flat) where
  module _ (files : List File) (nets : State → List (List ℕ)) (i : Stage) (l : i.node < length (table_of d).nodes) (h : at_trap (table_of d) i ≡ false) where
    cycle_in : (P : ℕ → Type 0) → ((x : Node) → slice_get (table_of d).nodes i.node ≡ Some x → All P (next_of x))
        → P (cycle d files nets (table_of d).nodes i).node
    cycle_in P f =
        let x = there (table_of d).nodes i.node l in
        let plain : is_trap (Some x.0) ≡ false = sym (ap is_trap x.1) ∙ h in
        subst (λ y. P (cycled d files nets y i).node) (sym x.1) (next_in P d files nets x.0 i plain (f x.0 x.1))

    pub cycle_within : (cycle d files nets (table_of d).nodes i).node < length (table_of d).nodes
    cycle_within = cycle_in (λ m. m < length (table_of d).nodes) (λ x e. all_within d i.node x e)

    pub cycle_lowers : rises (slice_get (table_of d).nodes i.node) ≡ false
        → left (table_of d) (cycle d files nets (table_of d).nodes i).node < left (table_of d) i.node
    cycle_lowers r = cycle_in (Lowers (table_of d) i.node) (λ x e. each_lowers d i.node x e (sym (ap rises e) ∙ r))

  module _ (scope : Scope) (i : Stage) (h : at_trap (table_of d) i ≡ true) where
    serve_in : (P : ℕ → Type 0) → ((x : Node) → slice_get (table_of d).nodes i.node ≡ Some x → is_trap (Some x) ≡ true → All P (next_of x))
        → P (served scope (table_of d).nodes i).node
    serve_in P f = at (slice_get (table_of d).nodes i.node) refl h
      where
        at : (x : Option Node) → slice_get (table_of d).nodes i.node ≡ x → is_trap x ≡ true → P (served_by scope x i).node
        at None e t = let z : ⊥ = cc in absurd z
        at (Some x) e t = served_in P scope x i t (f x e t)

    pub serve_within : (served scope (table_of d).nodes i).node < length (table_of d).nodes
    serve_within = serve_in (λ m. m < length (table_of d).nodes) (λ x e t. all_within d i.node x e)

    pub serve_lowers : left (table_of d) (served scope (table_of d).nodes i).node < left (table_of d) i.node
    serve_lowers = serve_in (Lowers (table_of d) i.node) (λ x e t. each_lowers d i.node x e (trap_stays x t))
      where
        trap_stays : (x : Node) → is_trap (Some x) ≡ true → rises (Some x) ≡ false
        trap_stays (Run g on) t = let z : ⊥ = cc in absurd z
        trap_stays (Trap task to) t = refl
        trap_stays (Apply to) t = refl

-- ---- a run

at_first : (k t j : ℕ) → j < k → 0 + j ≤ k * (t + 1)
at_first k t j h = let e = mul-add k t 1 in let f = mul-one k in omega arith

-- what is done in a tick more
at_next : (k t c j : ℕ) → c ≤ k * (t + 1) → j < k → c + 1 + j ≤ k * (t + 1 + 1)
at_next k t c j h g = let e = mul-add k (t + 1) 1 in let f = mul-one k in omega arith

-- so many acts have been done, and so many moves are left at most
pub record IsFew (d : Flat) (c : ℕ) (i : Stage) : Type 0 where
  pub within : i.node < length (table_of d).nodes
  pub few : c + left (table_of d) i.node ≤ most_left (table_of d) * (i.state.ticks + 1)

counted_most : (b : Bool) (c : ℕ) → (if b then c else suc c) ≤ c + 1
counted_most true c = omega arith
counted_most false c = omega arith

module _ (o : Origin) (nets : State → List (List ℕ)) where
  few_before : (i : Stage) → i.node < length (table_of o.flat).nodes → IsFew o.flat zero i
  few_before i l = record { within = l; few = at_first (most_left (table_of o.flat)) i.state.ticks (left (table_of o.flat) i.node) (all_few o.flat i.node) }

  few_first : (s : Option Snapshot) → IsFew o.flat zero (first_stage o (table_of o.flat) nets s)
  few_first None = few_before (first_stage o (table_of o.flat) nets None) (firsts_within o.flat).zero
  few_first (Some s) = few_before (first_stage o (table_of o.flat) nets (Some s)) (firsts_within o.flat).rise

  few_cycle : (c : ℕ) (i : Stage) → IsFew o.flat c i → at_trap (table_of o.flat) i ≡ false → (b : Bool) → rises (slice_get (table_of o.flat).nodes i.node) ≡ b
      → (n : ℕ) → n ≤ c + 1 → IsFew o.flat n (cycle o.flat o.files nets (table_of o.flat).nodes i)
  few_cycle c i f h true r n l =
      let K : ℕ = most_left (table_of o.flat) in
      let j : Stage = cycle o.flat o.files nets (table_of o.flat).nodes i in
      let none = none_rising o.flat i.node r in
      let few = f.few in
      let ticks : j.state.ticks ≡ i.state.ticks + 1 = cycle_ticks o.flat o.files nets (slice_get (table_of o.flat).nodes i.node) i ∙ rw r refl in
      let more = at_next K i.state.ticks c (left (table_of o.flat) j.node) (omega (arith, none, few)) (all_few o.flat j.node) in
      let many : n + left (table_of o.flat) j.node ≤ K * (i.state.ticks + 1 + 1) = omega (arith, more, l) in
      record {
        within = cycle_within o.flat o.files nets i f.within h;
        few = subst (λ t. n + left (table_of o.flat) j.node ≤ K * (t + 1)) (sym ticks) many;
      }
  few_cycle c i f h false r n l =
      let K : ℕ = most_left (table_of o.flat) in
      let j : Stage = cycle o.flat o.files nets (table_of o.flat).nodes i in
      let few = f.few in
      let fewer = cycle_lowers o.flat o.files nets i f.within h r in
      let ticks : j.state.ticks ≡ i.state.ticks = cycle_ticks o.flat o.files nets (slice_get (table_of o.flat).nodes i.node) i ∙ rw r refl in
      let many : n + left (table_of o.flat) j.node ≤ K * (i.state.ticks + 1) = omega (arith, few, fewer, l) in
      record {
        within = cycle_within o.flat o.files nets i f.within h;
        few = subst (λ t. n + left (table_of o.flat) j.node ≤ K * (t + 1)) (sym ticks) many;
      }

  few_serve : (c : ℕ) (i : Stage) → IsFew o.flat c i → at_trap (table_of o.flat) i ≡ true
      → IsFew o.flat (suc c) (served (scope_of o.flat o.files) (table_of o.flat).nodes i)
  few_serve c i f h =
      let K : ℕ = most_left (table_of o.flat) in
      let scope = scope_of o.flat o.files in
      let j : Stage = served scope (table_of o.flat).nodes i in
      let few = f.few in
      let fewer = serve_lowers o.flat scope i h in
      let ticks : j.state.ticks ≡ i.state.ticks = served_ticks scope (slice_get (table_of o.flat).nodes i.node) i in
      let many : suc c + left (table_of o.flat) j.node ≤ K * (i.state.ticks + 1) = omega (arith, few, fewer) in
      record {
        within = serve_within o.flat scope i h;
        few = subst (λ t. suc c + left (table_of o.flat) j.node ≤ K * (t + 1)) (sym ticks) many;
      }

  pub comes_few : {c : ℕ} {i : Stage} → Comes o (table_of o.flat) nets c i → IsFew o.flat c i
  comes_few begins = few_first o.resume
  comes_few (cycles {c = c} {i = i} x f h) =
      few_cycle c i (comes_few x) h (rises (slice_get (table_of o.flat).nodes i.node)) refl _
      (counted_most (at_trap (table_of o.flat) (cycle o.flat o.files nets (table_of o.flat).nodes i)) c)
  comes_few (serves {c = c} {i = i} x h) = few_serve c i (comes_few x) h

  pub acts_few : {c : ℕ} {i : Stage} → Comes o (table_of o.flat) nets c i → c ≤ most_left (table_of o.flat) * (i.state.ticks + 1)
  acts_few x = let f = (comes_few x).few in omega (arith, f)
