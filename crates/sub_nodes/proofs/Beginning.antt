-- The node that implements statements is a segment; and what nodes of a point are.
use Rattle.std.proofs.Common.{◌≡◌, ℕ, Bool, true, false, List, [], ◌∷◌, ◌++◌, Some, sym, ap, subst}
use Rattle.std.specs.Prelude.{slice_get}
use Rattle.vl_design.specs.Syntax.{Task, Stm, Nop, Then, If, Case, For, Repeat, Set, Later, Sys, Proc, Flat}
use Rattle.vl_design.specs.Queue as queue
use Rattle.vl_design.specs.Queue.{Queue, Phase, Ended, Updated, is_rise}
use Rattle.vl_design.specs.Alone.{blocks}
use Rattle.vl_design.specs.Acts.{Point, Between, Inside, at_boundary, is_last}
use Rattle.vl_design.specs.Laws.{can_act}
use Rattle.sub_nodes.specs.Nodes.{Segment, still, rising, and_then, WayOn, Go, Branch, Switch, Commit, Node, Run, Apply, Table}
use Rattle.sub_nodes.specs.Implements.{Whether, Impl, Impls, bodies, IsTableOf}
use Rattle.sub_nodes.specs.Cycles.{Stage, is_trap, rises}
use Rattle.sub_nodes.specs.Stands.{Begins, GoesBetween, GoesFrom, Stands, StandsAtTrap}

whether : {A B C : Type 0} (held : Bool) → (A → C) → (B → C) → Whether held A B → C
whether true f g h = f h
whether false f g h = g h

module _ (nodes : List Node) where
  -- the node is no trap; before it the clock rises or not
  pub record Runs (n : ℕ) (rise : Bool) : Type 0 where
    pub before : rises (slice_get nodes n) ≡ rise
    pub none : is_trap (slice_get nodes n) ≡ false

  runs : (n : ℕ) (g : Segment) (on : WayOn) → slice_get nodes n ≡ Some (Run g on) → Runs n g.rises
  runs n g on h = record { before = ap rises h; none = ap is_trap h }

  impl_runs : (x : Stm) (K : Segment → ℕ → Type 0) (g : Segment) (n : ℕ) → ((g : Segment) (n : ℕ) → K g n → Runs n g.rises) → Impl nodes x K g n → Runs n g.rises
  impl_runs Nop K g n k h = k g n h
  impl_runs (Then a b) K g n k h = impl_runs a (Impl nodes b K) g n (λ g n. impl_runs b K g n k) h
  impl_runs (If t a b) K g n k h = whether (can_act (If t a b)) (λ f. runs n g (Branch t f.0 f.1) f.2) (k (and_then g (If t a b)) n) h
  impl_runs (Case e items) K g n k h = whether (can_act (Case e items)) (λ f. runs n g (Switch e f.0 f.1) f.2) (k (and_then g (Case e items)) n) h
  impl_runs (For v start test step a) K g n k h = k _ n h
  impl_runs (Repeat m a) K g n k h = k _ n h
  impl_runs (Set t e) K g n k h = k _ n h
  impl_runs (Later t e) K g n k h = k _ n h
  impl_runs (Sys task) K g n k h = runs n g (Go h.0) h.2

  pub impls_run : (u : ℕ) (xs : List Stm) (g : Segment) (n : ℕ) → Impls nodes u xs g n → Runs n g.rises
  impls_run u [] g n h = runs n g (Commit u) h
  impls_run u (x ∷ xs) g n h = impl_runs x (Impls nodes u xs) g n (impls_run u xs) h

  applies : (n to : ℕ) → slice_get nodes n ≡ Some (Apply to) → Runs n false
  applies n to h = record { before = ap rises h; none = ap is_trap h }

module _ (d : Flat) (T : Table) (t : IsTableOf d T) where
  begins_runs : (ahead : List (List Proc)) (n : ℕ) → Begins T ahead n → Runs T.nodes n (is_last Updated ahead)
  begins_runs [] n h = subst (λ m. Runs T.nodes m true) (sym h) (impls_run T.nodes T.rise.update (bodies (blocks is_rise d.procs)) rising T.rise.first t.rise.runs)
  begins_runs (w ∷ ws) n h = impls_run T.nodes h.0 (bodies w) still n h.1

  between_runs : (phase : Phase) (ahead : List (List Proc)) (n : ℕ) → GoesBetween T phase ahead n → Runs T.nodes n (is_last phase ahead)
  between_runs (queue.Wave left) ahead n h = impls_run T.nodes h.0 (bodies left) still n h.1
  between_runs Ended ahead n h = applies T.nodes n h.0 h.1
  between_runs Updated ahead n h = begins_runs ahead n h

  point_runs : (p : Point) (n : ℕ) → GoesFrom T p n → Runs T.nodes n (at_boundary p)
  point_runs (Between q) n h = between_runs q.phase q.ahead n h
  point_runs (Inside q rest from committed) n h = impls_run T.nodes h.2.0 (rest ++ bodies h.0) still n h.2.1

  -- where the run of a table stands for a point, the clock rises next just where the point is at a boundary
  pub stands_rise : {i : Stage} {p : Point} → Stands T i p → rises (slice_get T.nodes i.node) ≡ at_boundary p
  stands_rise {i} {p} s = (point_runs p i.node s.goes).before

  pub stands_none : {i : Stage} {p : Point} → Stands T i p → is_trap (slice_get T.nodes i.node) ≡ false
  stands_none {i} {p} s = (point_runs p i.node s.goes).none

pub trap_is : (T : Table) {task : Task} {i : Stage} {p : Point} → StandsAtTrap T task i p → is_trap (slice_get T.nodes i.node) ≡ true
trap_is T s = ap is_trap s.trap
