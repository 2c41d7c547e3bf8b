-- A run of a table stays tidy.
use Rattle.std.proofs.Common.{◌≡◌, ℕ, Bool, true, false, List, [], ◌∷◌, refl, sym, ap, ◌∙◌, subst}
use Rattle.std.specs.Prelude.{All, if◌then◌else◌}
use Rattle.std.proofs.lemmas.List.Elements.{All-nil}
use Rattle.vl_sites.specs.vl_base.specs.declared.files.File.{File}
use Rattle.vl_sites.specs.vl_design.specs.Syntax.{Task, Sys, Flat}
use Rattle.vl_sites.specs.vl_design.specs.State.{State, Update, counted}
use Rattle.vl_sites.specs.vl_design.specs.Tasks.{called}
use Rattle.vl_sites.specs.vl_design.specs.Exec.{exec}
use Rattle.vl_sites.specs.vl_design.specs.Functions.{scope_of}
use Rattle.vl_sites.specs.vl_design.specs.Queue.{proc_at, with_updates}
use Rattle.vl_sites.specs.vl_design.specs.Laws.{IsFine}
use Rattle.vl_sites.specs.vl_design.proofs.Resting.{exec_over}
use Rattle.vl_runs.specs.Nets.{pass}
use Rattle.vl_runs.specs.NetsOfSettle.{comb_at, run}
use Rattle.vl_runs.specs.Checked.{IsChecked, IsOrder}
use Rattle.vl_runs.proofs.Fine.{updates_fine}
use Rattle.sub_nodes.specs.Nodes.{Segment, WayOn, Go, Branch, Switch, Commit}
use Rattle.sub_nodes.specs.Cycles.{Stage, committed_in, segment_done, settled, goes_on}
use Rattle.sub_runs.specs.Nets.{computed_at, nets_of, RestIsZero}
use Rattle.sub_runs.specs.Tidy.{IsTidy}
use Rattle.sub_runs.proofs.Writes.{WritesNone, all_updates, updates_all, segment_keeps, segment_stays, segment_fine}
use Rattle.sub_runs.proofs.Calls.{call_later, call_keeps, call_fine}
use Rattle.sub_runs.proofs.Fine.{all_fine}
use Rattle.sub_runs.proofs.Holding.{rest_on, updates_same, nets_rest}

module _ (d : Flat) (files : List File) where
  -- a run that has finished evaluates nothing
  run_over : (s : State) → s.finished ≡ true → (i : ℕ) (v : List (List ℕ)) → run d files s i v ≡ v
  run_over s f i v = at (comb_at d i)
    where
      at : (b : Bool) → (if b then (exec (scope_of d files) (proc_at d i).body (record s { values = v })).values else v) ≡ v
      at true = ap (λ z. z.values) (exec_over (scope_of d files) (proc_at d i).body (record s { values = v }) f)
      at false = refl

  pass_over : (s : State) → s.finished ≡ true → (ps : List ℕ) (v : List (List ℕ)) → pass (run d files s) ps v ≡ v
  pass_over s f [] v = refl
  pass_over s f (p ∷ ps) v = pass_over s f ps (run d files s p v) ∙ run_over s f p v

  -- what is left as it was by a segment, and by a call
  pub tidy_segment : (g : Segment) → All (WritesNone (computed_at d.rows)) g.statements → (i : Stage) → IsTidy d i → IsTidy d (record i { state = segment_done (scope_of d files) g i.state })
  tidy_segment g h i t = record {
    fine = segment_fine d files g i.state t.fine;
    committed = t.committed;
    later = updates_all (computed_at d.rows) _ (segment_stays (computed_at d.rows) (scope_of d files) g h i.state (all_updates (computed_at d.rows) i.state.later t.later));
    rest = rest_on d i.state.values _ (λ k c. segment_keeps (computed_at d.rows) (scope_of d files) k c g h i.state) t.rest;
  }

  pub tidy_call : (task : Task) → WritesNone (computed_at d.rows) (Sys task) → (i : Stage) (to : ℕ) → IsTidy d i → IsTidy d (record i { node = to; state = called (scope_of d files) task i.state })
  tidy_call task h i to t = record {
    fine = call_fine d files task i.state t.fine;
    committed = t.committed;
    later = subst (All (λ (u : Update). computed_at d.rows u.signal ≡ false)) (sym (call_later (scope_of d files) task i.state)) t.later;
    rest = rest_on d i.state.values _ (λ k c. call_keeps (computed_at d.rows) k c (scope_of d files) task i.state h) t.rest;
  }

  module _ (checked : IsChecked d) (order : List ℕ) (o : IsOrder d order) where
    rest_tidy : (s : State) → IsFine d.rows s.values → RestIsZero d s.values → RestIsZero d (nets_of d files order s)
    rest_tidy s f r = at s.finished refl
      where
        at : (b : Bool) → s.finished ≡ b → RestIsZero d (nets_of d files order s)
        at true e = let z : nets_of d files order s ≡ s.values = pass_over s e order s.values in subst (RestIsZero d) (sym z) r
        at false e = nets_rest d checked files order o s e f r

    pub tidy_settled : (s : State) (to : ℕ) → IsFine d.rows s.values → All (λ u. computed_at d.rows u.signal ≡ false) s.later → RestIsZero d s.values
        → IsTidy d (committed_in to (settled d files (nets_of d files order) s))
    tidy_settled s to f l r = let n = all_fine d files order s f in record { fine = n; committed = n; later = l; rest = rest_tidy s f r }

    pub tidy_goes : (on : WayOn) (i : Stage) → IsTidy d i → IsTidy d (goes_on d files (nets_of d files order) on i.state i.committed)
    tidy_goes (Go to) i t = record { fine = t.fine; committed = t.committed; later = t.later; rest = t.rest }
    tidy_goes (Branch e a b) i t = record { fine = t.fine; committed = t.committed; later = t.later; rest = t.rest }
    tidy_goes (Switch e ways other) i t = record { fine = t.fine; committed = t.committed; later = t.later; rest = t.rest }
    tidy_goes (Commit to) i t = tidy_settled (counted i.state) to t.fine t.later t.rest

    pub tidy_update : (i : Stage) (to : ℕ) → IsTidy d i → IsTidy d (committed_in to (settled d files (nets_of d files order) (counted (with_updates d.rows i.state))))
    tidy_update i to t =
        tidy_settled (counted (with_updates d.rows i.state)) to (updates_fine d i.state t.fine) (All-nil (λ (u : Update). computed_at d.rows u.signal ≡ false))
        (rest_on d i.state.values _ (updates_same d i.state (all_updates (computed_at d.rows) i.state.later t.later)) t.rest)
