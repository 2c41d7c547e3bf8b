-- One cycle of a table, and one served call: nets that hold do so on, and where they settle they hold.
use Rattle.std.proofs.Common.{◌≡◌, ℕ, false, List, Some, refl, sym, subst}
use Rattle.std.specs.Prelude.{All, slice_get}
use Rattle.vl_sites.specs.vl_base.specs.declared.files.File.{File}
use Rattle.vl_sites.specs.vl_design.specs.Syntax.{Task, Sys, Flat}
use Rattle.vl_sites.specs.vl_design.specs.State.{State, counted}
use Rattle.vl_sites.specs.vl_design.specs.Tasks.{called}
use Rattle.vl_sites.specs.vl_design.specs.Functions.{scope_of}
use Rattle.vl_sites.specs.vl_design.specs.Queue.{with_updates}
use Rattle.vl_runs.specs.Checked.{IsChecked, IsOrder}
use Rattle.vl_runs.proofs.Fine.{updates_fine}
use Rattle.sub_nodes.specs.Nodes.{Segment, WayOn, Go, Branch, Switch, Commit, Node, Run, Trap, Apply}
use Rattle.sub_nodes.specs.Cycles.{Stage, committed_in, segment_done, settled, goes_on, cycled, cycle, served_by, served}
use Rattle.sub_runs.specs.Nets.{computed_at, nets_of, HoldNets, NetsAreZero, ends_wave}
use Rattle.sub_runs.specs.Tidy.{IsTidy}
use Rattle.sub_runs.proofs.Writes.{WritesNone, all_updates, segment_keeps}
use Rattle.sub_runs.proofs.Calls.{call_alive, call_keeps}
use Rattle.sub_runs.proofs.Tidy.{tidy_segment}
use Rattle.sub_runs.proofs.Holding.{SameNets, zero_on, rest_on, updates_same, hold_on, settled_hold}

module _ (d : Flat) (files : List File) (g : Segment) (w : All (WritesNone (computed_at d.rows)) g.statements) where
  segment_same : (s : State) → SameNets d s.values (segment_done (scope_of d files) g s).values
  segment_same s k c = segment_keeps (computed_at d.rows) (scope_of d files) k c g w s

  pub segment_zero : (i : Stage) → NetsAreZero d i → NetsAreZero d (record i { state = segment_done (scope_of d files) g i.state })
  segment_zero i h = zero_on d i _ (segment_same i.state) h

  pub segment_holds : (checked : IsChecked d) (order : List ℕ) (i : Stage) → i.state.finished ≡ false → (segment_done (scope_of d files) g i.state).finished ≡ false → HoldNets d order files i
      → HoldNets d order files (record i { state = segment_done (scope_of d files) g i.state })
  segment_holds checked order i e f h = hold_on d checked files order i _ e f refl (segment_same i.state) h

module _ (d : Flat) (files : List File) (nets : State → List (List ℕ)) where
  -- on the way on but past the end of a wave
  pub goes_zero : (on : WayOn) (i : Stage) → ends_wave on ≡ false → NetsAreZero d i → NetsAreZero d (goes_on d files nets on i.state i.committed)
  goes_zero (Go to) i e h = record { zero = h.zero }
  goes_zero (Branch t a b) i e h = record { zero = h.zero }
  goes_zero (Switch t ways other) i e h = record { zero = h.zero }
  goes_zero (Commit to) i e h = let z : ⊥ = cc in absurd z

  pub goes_hold : (checked : IsChecked d) (order : List ℕ) (on : WayOn) (i : Stage) → ends_wave on ≡ false → i.state.finished ≡ false → HoldNets d order files i
      → HoldNets d order files (goes_on d files nets on i.state i.committed)
  goes_hold checked order (Go to) i e f h = hold_on d checked files order i _ f f refl (λ k c. refl) h
  goes_hold checked order (Branch t a b) i e f h = hold_on d checked files order i _ f f refl (λ k c. refl) h
  goes_hold checked order (Switch t ways other) i e f h = hold_on d checked files order i _ f f refl (λ k c. refl) h
  goes_hold checked order (Commit to) i e f h = let z : ⊥ = cc in absurd z

  pub goes_alive : (on : WayOn) (s : State) (committed : List (List ℕ)) → (goes_on d files nets on s committed).state.finished ≡ s.finished
  goes_alive (Go to) s committed = refl
  goes_alive (Branch t a b) s committed = refl
  goes_alive (Switch t ways other) s committed = refl
  goes_alive (Commit to) s committed = refl

module _ (d : Flat) (files : List File) (checked : IsChecked d) (order : List ℕ) (o : IsOrder d order) where
  pub commit_holds : (i : Stage) (to : ℕ) → i.state.finished ≡ false → IsTidy d i → HoldNets d order files (committed_in to (settled d files (nets_of d files order) (counted i.state)))
  commit_holds i to f t = settled_hold d checked files order o (counted i.state) f t.fine t.rest to

  pub update_holds : (i : Stage) (to : ℕ) → i.state.finished ≡ false → IsTidy d i
      → HoldNets d order files (committed_in to (settled d files (nets_of d files order) (counted (with_updates d.rows i.state))))
  update_holds i to f t =
      settled_hold d checked files order o (counted (with_updates d.rows i.state)) f (updates_fine d i.state t.fine)
      (rest_on d i.state.values _ (updates_same d i.state (all_updates (computed_at d.rows) i.state.later t.later)) t.rest) to

module _ (d : Flat) (files : List File) (task : Task) (w : WritesNone (computed_at d.rows) (Sys task)) where
  call_same : (s : State) → SameNets d s.values (called (scope_of d files) task s).values
  call_same s k c = call_keeps (computed_at d.rows) k c (scope_of d files) task s w

  pub call_zero : (i : Stage) (to : ℕ) → NetsAreZero d i → NetsAreZero d (record i { node = to; state = called (scope_of d files) task i.state })
  call_zero i to h = zero_on d i _ (call_same i.state) h

  pub call_holds : (checked : IsChecked d) (order : List ℕ) (i : Stage) (to : ℕ) → (called (scope_of d files) task i.state).finished ≡ false → HoldNets d order files i
      → HoldNets d order files (record i { node = to; state = called (scope_of d files) task i.state })
  call_holds checked order i to f h = hold_on d checked files order i _ (call_alive (scope_of d files) task i.state f) f refl (call_same i.state) h

-- ---- by the node

module _ (d : Flat) (files : List File) (nodes : List Node) (g : Segment) (on : WayOn) (i : Stage) (e : slice_get nodes i.node ≡ Some (Run g on)) (w : All (WritesNone (computed_at d.rows)) g.statements) where
  pub cycle_zero : (nets : State → List (List ℕ)) → ends_wave on ≡ false → NetsAreZero d i → NetsAreZero d (cycle d files nets nodes i)
  cycle_zero nets n h =
      subst (λ x. NetsAreZero d (cycled d files nets x i)) (sym e)
      (goes_zero d files nets on (record i { state = segment_done (scope_of d files) g i.state }) n (segment_zero d files g w i h))

  pub cycle_holds : (checked : IsChecked d) (order : List ℕ) → ends_wave on ≡ false → i.state.finished ≡ false → (segment_done (scope_of d files) g i.state).finished ≡ false → HoldNets d order files i
      → HoldNets d order files (cycle d files (nets_of d files order) nodes i)
  cycle_holds checked order n f a h =
      subst (λ x. HoldNets d order files (cycled d files (nets_of d files order) x i)) (sym e)
      (goes_hold d files (nets_of d files order) checked order on (record i { state = segment_done (scope_of d files) g i.state }) n a (segment_holds d files g w checked order i f a h))

module _ (d : Flat) (files : List File) (checked : IsChecked d) (order : List ℕ) (o : IsOrder d order) (nodes : List Node) where
  pub cycle_ends : (g : Segment) (to : ℕ) (i : Stage) → slice_get nodes i.node ≡ Some (Run g (Commit to)) → All (WritesNone (computed_at d.rows)) g.statements
      → (segment_done (scope_of d files) g i.state).finished ≡ false → IsTidy d i → HoldNets d order files (cycle d files (nets_of d files order) nodes i)
  cycle_ends g to i e w f t =
      subst (λ x. HoldNets d order files (cycled d files (nets_of d files order) x i)) (sym e)
      (commit_holds d files checked order o (record i { state = segment_done (scope_of d files) g i.state }) to f (tidy_segment d files g w i t))

  pub cycle_updates : (to : ℕ) (i : Stage) → slice_get nodes i.node ≡ Some (Apply to) → i.state.finished ≡ false → IsTidy d i → HoldNets d order files (cycle d files (nets_of d files order) nodes i)
  cycle_updates to i e f t = subst (λ x. HoldNets d order files (cycled d files (nets_of d files order) x i)) (sym e) (update_holds d files checked order o i to f t)

module _ (d : Flat) (files : List File) (nodes : List Node) (task : Task) (to : ℕ) (i : Stage) (e : slice_get nodes i.node ≡ Some (Trap task to)) (w : WritesNone (computed_at d.rows) (Sys task)) where
  pub serve_zero : NetsAreZero d i → NetsAreZero d (served (scope_of d files) nodes i)
  serve_zero h = subst (λ x. NetsAreZero d (served_by (scope_of d files) x i)) (sym e) (call_zero d files task w i to h)

  pub serve_holds : (checked : IsChecked d) (order : List ℕ) → (served (scope_of d files) nodes i).state.finished ≡ false → HoldNets d order files i
      → HoldNets d order files (served (scope_of d files) nodes i)
  serve_holds checked order f h =
      let alive : (called (scope_of d files) task i.state).finished ≡ false = subst (λ x. (served_by (scope_of d files) x i).state.finished ≡ false) e f in
      subst (λ x. HoldNets d order files (served_by (scope_of d files) x i)) (sym e) (call_holds d files task w checked order i to alive h)
