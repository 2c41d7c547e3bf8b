-- Values and committed values of a run of any table are as the design's signals have them.
use Rattle.std.proofs.Common.{ℕ, Bool, true, false, List, [], ◌∷◌, Option, Some, None}
use Rattle.std.specs.Prelude.{if◌then◌else◌}
use Rattle.vl_sites.specs.vl_base.specs.declared.files.File.{File}
use Rattle.vl_sites.specs.vl_design.specs.Syntax.{Flat}
use Rattle.vl_sites.specs.vl_design.specs.State.{State, counted}
use Rattle.vl_sites.specs.vl_design.specs.Exec.{exec}
use Rattle.vl_sites.specs.vl_design.specs.Functions.{scope_of}
use Rattle.vl_sites.specs.vl_design.specs.Queue.{proc_at, with_updates}
use Rattle.vl_sites.specs.vl_design.specs.Snapshots.{Snapshot}
use Rattle.vl_sites.specs.vl_design.specs.Alone.{Origin, resumed}
use Rattle.vl_sites.specs.vl_design.specs.Laws.{IsFine, StartsFine}
use Rattle.vl_sites.specs.vl_design.proofs.Fine.{zeros_fine}
use Rattle.vl_runs.specs.Nets.{pass}
use Rattle.vl_runs.specs.NetsOfSettle.{comb_at, run}
use Rattle.vl_runs.proofs.Fine.{exec_fine, updates_fine}
use Rattle.sub_nodes.specs.Nodes.{WayOn, Go, Branch, Switch, Commit, Node, Run, Trap, Apply, Table}
use Rattle.sub_nodes.specs.Cycles.{Stage, segment_done, goes_on, cycled, served_by}
use Rattle.sub_nodes.specs.Stands.{first_stage, Comes, cycles, serves}
use Rattle.sub_runs.specs.Nets.{nets_of}
use Rattle.sub_runs.proofs.Writes.{segment_fine}
use Rattle.sub_runs.proofs.Calls.{call_fine}

module _ (d : Flat) (files : List File) (order : List ℕ) where
  abbrev pub BothFine : Stage → Type 0
  BothFine i = IsFine d.rows i.state.values × IsFine d.rows i.committed

  run_fine : (s : State) (i : ℕ) (v : List (List ℕ)) → IsFine d.rows v → IsFine d.rows (run d files s i v)
  run_fine s i v f = at (comb_at d i)
    where
      at : (b : Bool) → IsFine d.rows (if b then (exec (scope_of d files) (proc_at d i).body (record s { values = v })).values else v)
      at true = exec_fine d files (proc_at d i).body (record s { values = v }) f
      at false = f

  passes_fine : (s : State) (ps : List ℕ) (v : List (List ℕ)) → IsFine d.rows v → IsFine d.rows (pass (run d files s) ps v)
  passes_fine s [] v f = f
  passes_fine s (p ∷ ps) v f = passes_fine s ps (run d files s p v) (run_fine s p v f)

  pub all_fine : (s : State) → IsFine d.rows s.values → IsFine d.rows (nets_of d files order s)
  all_fine s f = passes_fine s order s.values f

  fine_goes : (on : WayOn) (i : Stage) → BothFine i → BothFine (goes_on d files (nets_of d files order) on i.state i.committed)
  fine_goes (Go to) i f = f
  fine_goes (Branch t a b) i f = f
  fine_goes (Switch t ways other) i f = f
  fine_goes (Commit to) i f = let n = all_fine (counted i.state) f.0 in (n, n)

  pub fine_cycled : (x : Option Node) (i : Stage) → BothFine i → BothFine (cycled d files (nets_of d files order) x i)
  fine_cycled None i f = f
  fine_cycled (Some (Run g on)) i f = fine_goes on (record i { state = segment_done (scope_of d files) g i.state }) (segment_fine d files g i.state f.0, f.1)
  fine_cycled (Some (Trap task to)) i f = f
  fine_cycled (Some (Apply to)) i f = let n = all_fine (counted (with_updates d.rows i.state)) (updates_fine d i.state f.0) in (n, n)

  pub fine_served : (x : Option Node) (i : Stage) → BothFine i → BothFine (served_by (scope_of d files) x i)
  fine_served None i f = f
  fine_served (Some (Run g on)) i f = f
  fine_served (Some (Trap task to)) i f = (call_fine d files task i.state f.0, f.1)
  fine_served (Some (Apply to)) i f = f

module _ (o : Origin) (T : Table) (order : List ℕ) (fine : StartsFine o.flat.rows o.resume) where
  first_fine : (s : Option Snapshot) → StartsFine o.flat.rows s → BothFine o.flat o.files order (first_stage o T (nets_of o.flat o.files order) s)
  first_fine None h = (zeros_fine o.flat.rows, zeros_fine o.flat.rows)
  first_fine (Some s) h = let n = all_fine o.flat o.files order (resumed o.flat s).state h in (n, n)

  pub comes_fine : {c : ℕ} {i : Stage} → Comes o T (nets_of o.flat o.files order) c i → BothFine o.flat o.files order i
  comes_fine Comes.begins = first_fine o.resume fine
  comes_fine (cycles {i = i} x f h) = fine_cycled o.flat o.files order _ i (comes_fine x)
  comes_fine (serves {i = i} x h) = fine_served o.flat o.files order _ i (comes_fine x)
