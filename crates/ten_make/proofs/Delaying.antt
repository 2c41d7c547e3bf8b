-- In a run of a design's table updates are pending of those signals alone that nonblocking assignments name.
use Rattle.std.proofs.Common.{◌≡◌, ℕ, Bool, false, List, Option, Some, None, refl, sym, subst}
use Rattle.std.specs.Prelude.{◌==◌, All, slice_get}
use Rattle.ten_core.specs.vl_base.specs.declared.files.File.{File}
use Rattle.ten_core.specs.vl_design.specs.Syntax.{Flat}
use Rattle.ten_core.specs.vl_design.specs.State.{State, Update}
use Rattle.ten_core.specs.vl_design.specs.Functions.{scope_of}
use Rattle.ten_core.specs.vl_design.specs.Queue.{proc_at}
use Rattle.ten_core.specs.vl_design.specs.Snapshots.{Snapshot}
use Rattle.ten_core.specs.vl_design.specs.Alone.{Origin}
use Rattle.ten_core.specs.vl_design.proofs.Kept.{OfUpdates}
use Rattle.sub_split.specs.sub_nodes.specs.Nodes.{WayOn, Go, Branch, Switch, Commit, Node, Run, Trap, Apply}
use Rattle.sub_split.specs.sub_nodes.specs.Code.{table_of}
use Rattle.sub_split.specs.sub_nodes.specs.Cycles.{Stage, segment_done, goes_on, cycled, served_by}
use Rattle.sub_split.specs.sub_nodes.specs.Stands.{first_stage, Comes, cycles, serves}
use Rattle.sub_runs.proofs.Calls.{call_later}
use Rattle.sub_runs.proofs.Writes.{updates_all}
use Rattle.ten_core.specs.ten_form.specs.Delays.{stm_delays, is_delayed}
use Rattle.cell_states.proofs.Delaying.{segment-stays, node-delays, none-at}

-- ---- runs of tables

module _ (d : Flat) (p : ℕ → Bool) (none : (i : ℕ) → stm_delays p (proc_at d i).body ≡ false) (files : List File) (nets : State → List (List ℕ)) where
  goes-late : (on : WayOn) (s : State) (committed : List (List ℕ)) → OfUpdates p s.later → OfUpdates p (goes_on d files nets on s committed).state.later
  goes-late (Go to) s committed f = f
  goes-late (Branch t a b) s committed f = f
  goes-late (Switch t ways other) s committed f = f
  goes-late (Commit to) s committed f = f

  cycled-late : (x : Option Node) (i : Stage) → slice_get (table_of d).nodes i.node ≡ x → OfUpdates p i.state.later → OfUpdates p (cycled d files nets x i).state.later
  cycled-late None i e f = f
  cycled-late (Some (Run g on)) i e f =
      goes-late on (segment_done (scope_of d files) g i.state) i.committed (segment-stays p (scope_of d files) g (node-delays d p none i.node (Run g on) e) i.state f)
  cycled-late (Some (Trap task to)) i e f = f
  cycled-late (Some (Apply to)) i e f = tt

  served-late : (x : Option Node) (i : Stage) → OfUpdates p i.state.later → OfUpdates p (served_by (scope_of d files) x i).state.later
  served-late None i f = f
  served-late (Some (Run g on)) i f = f
  served-late (Some (Trap task to)) i f = subst (OfUpdates p) (sym (call_later (scope_of d files) task i.state)) f
  served-late (Some (Apply to)) i f = f

module _ (o : Origin) (nets : State → List (List ℕ)) where
  module _ (p : ℕ → Bool) (none : (i : ℕ) → stm_delays p (proc_at o.flat i).body ≡ false) where
    first-late : (s : Option Snapshot) → OfUpdates p (first_stage o (table_of o.flat) nets s).state.later
    first-late None = tt
    first-late (Some s) = tt

    comes-late : {c : ℕ} {i : Stage} → Comes o (table_of o.flat) nets c i → OfUpdates p i.state.later
    comes-late Comes.begins = first-late o.resume
    comes-late (cycles {i = i} x f h) = cycled-late o.flat p none o.files nets _ i refl (comes-late x)
    comes-late (serves {i = i} x h) = served-late o.flat p none o.files nets _ i (comes-late x)

  pub delayed-alone : (c : ℕ) (i : Stage) → Comes o (table_of o.flat) nets c i → (k : ℕ) → is_delayed o.flat k ≡ false → All (λ (u : Update). (u.signal == k) ≡ false) i.state.later
  delayed-alone c i comes k h = updates_all (λ j. j == k) i.state.later (comes-late (λ j. j == k) (λ n. none-at k o.flat.procs n h) comes)
