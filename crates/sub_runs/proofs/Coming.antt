-- The nets of a run of a table: 0 in time zero's wave, and from its end on what one pass makes of the committed values.
use Rattle.std.proofs.Common.{◌≡◌, ℕ, ◌<◌, ◌≤◌, true, false, List, Option, Some, None, refl, sym, ◌∙◌, arith, ◌⊎◌, inl, inr}
use Rattle.std.specs.Prelude.{slice_get}
use Rattle.std.proofs.lemmas.List.Elements.{All-nil}
use Rattle.vl_sites.specs.vl_base.specs.declared.files.File.{File}
use Rattle.vl_sites.specs.vl_design.specs.Syntax.{Flat}
use Rattle.vl_sites.specs.vl_design.specs.State.{State, Update}
use Rattle.vl_sites.specs.vl_design.specs.Functions.{scope_of}
use Rattle.vl_sites.specs.vl_design.specs.Snapshots.{Snapshot}
use Rattle.vl_sites.specs.vl_design.specs.Alone.{Origin, resumed}
use Rattle.vl_sites.specs.vl_design.specs.Laws.{StartsFine}
use Rattle.vl_sites.specs.vl_design.proofs.Fine.{zeros_fine}
use Rattle.vl_runs.specs.Checked.{IsChecked, IsOrder}
use Rattle.sub_nodes.specs.Nodes.{Segment, WayOn, Go, Branch, Switch, Commit, Node, Run, Trap, Apply, Table}
use Rattle.sub_nodes.specs.Code.{table_of}
use Rattle.sub_nodes.specs.Cycles.{Stage, segment_done, goes_on, cycled, served_by}
use Rattle.sub_nodes.specs.Shape.{leads_to}
use Rattle.sub_nodes.specs.Stands.{first_stage, Comes, cycles, serves}
use Rattle.sub_runs.specs.Nets.{computed_at, nets_of, HoldNets, NetsAreZero, WritesNoNets, ends_wave, zero_low}
use Rattle.sub_runs.specs.Tidy.{IsTidy}
use Rattle.sub_runs.proofs.Calls.{call_alive}
use Rattle.sub_runs.proofs.Holding.{settled_hold}
use Rattle.sub_runs.proofs.Starting.{zeros_index, zeros_rest, kept_rest}
use Rattle.sub_runs.proofs.Tidy.{tidy_segment, tidy_call, tidy_settled, tidy_goes, tidy_update}
use Rattle.sub_runs.proofs.Parts.{NodeHas}
use Rattle.sub_runs.proofs.Regions.{below_or_not, rise_low, zero_high, is_low, is_high, low_has, high_has}
use Rattle.sub_runs.proofs.Comb.{KeepsNets, parts, inits_keep, rises_keep, falls_keep}
use Rattle.sub_runs.proofs.Cycles.{segment_zero, segment_holds, goes_zero, goes_hold, goes_alive, commit_holds, update_holds, call_zero, call_holds}
use Rattle.sub_runs.proofs.Ways.{goes_to, leads_trap}

-- ---- tables

module _ (d : Flat) where
  abbrev T : Table
  T = table_of d

  pub run_stays : (n m : ℕ) (x : Node) → slice_get T.nodes n ≡ Some x → leads_to x m ≡ true → m < zero_low d → n < zero_low d
  run_stays n m x e h l = at (below_or_not n (zero_low d))
    where
      at : (n < zero_low d) ⊎ (zero_low d ≤ n) → n < zero_low d
      at (inl a) = a
      at (inr a) = let k = (is_high d n x a e).leads m h in let z : ⊥ = omega arith in absurd z

  pub run_starts : (n m : ℕ) (x : Node) → slice_get T.nodes n ≡ Some x → leads_to x m ≡ true → zero_low d ≤ m → zero_low d ≤ n
  run_starts n m x e h l = at (below_or_not n (zero_low d))
    where
      at : (n < zero_low d) ⊎ (zero_low d ≤ n) → zero_low d ≤ n
      at (inl a) = let k = (is_low d n x a e).leads m h in let z : ⊥ = omega arith in absurd z
      at (inr a) = a

  pub run_reaches : (n m : ℕ) (x : Node) → slice_get T.nodes n ≡ Some x → leads_to x m ≡ true → zero_low d ≤ n → zero_low d ≤ m
  run_reaches n m x e h l = (is_high d n x l e).leads m h

  pub commit_low : (n to : ℕ) (g : Segment) → slice_get T.nodes n ≡ Some (Run g (Commit to)) → to < zero_low d
  commit_low n to g e = at (below_or_not n (zero_low d))
    where
      at : (n < zero_low d) ⊎ (zero_low d ≤ n) → to < zero_low d
      at (inl a) = (is_low d n (Run g (Commit to)) a e).ends g to refl
      at (inr a) = (is_high d n (Run g (Commit to)) a e).ends g to refl

  pub apply_low : (n to : ℕ) → slice_get T.nodes n ≡ Some (Apply to) → to < zero_low d
  apply_low n to e = at (below_or_not n (zero_low d))
    where
      at : (n < zero_low d) ⊎ (zero_low d ≤ n) → to < zero_low d
      at (inl a) = (is_low d n (Apply to) a e).updates to refl
      at (inr a) = absurd ((is_high d n (Apply to) a e).none to refl)

  pub apply_stands : (n to : ℕ) → slice_get T.nodes n ≡ Some (Apply to) → n < zero_low d
  apply_stands n to e = at (below_or_not n (zero_low d))
    where
      at : (n < zero_low d) ⊎ (zero_low d ≤ n) → n < zero_low d
      at (inl a) = a
      at (inr a) = absurd ((is_high d n (Apply to) a e).none to refl)

module _ (d : Flat) (w : WritesNoNets d) where
  node_keeps : (n : ℕ) (x : Node) → slice_get (T d).nodes n ≡ Some x → NodeHas (KeepsNets d w) (parts d w) x
  node_keeps n x e = at (below_or_not n (zero_low d))
    where
      at : (n < zero_low d) ⊎ (zero_low d ≤ n) → NodeHas (KeepsNets d w) (parts d w) x
      at (inl a) = low_has d (KeepsNets d w) (parts d w) (rises_keep d w) (falls_keep d w) n x a e
      at (inr a) = high_has d (KeepsNets d w) (parts d w) (inits_keep d w) n x a e

  pub tidy_served : (files : List File) (x : Option Node) (i : Stage) → slice_get (T d).nodes i.node ≡ x → IsTidy d i → IsTidy d (served_by (scope_of d files) x i)
  tidy_served files None i e t = t
  tidy_served files (Some (Run g on)) i e t = t
  tidy_served files (Some (Trap task to)) i e t = tidy_call d files task (node_keeps i.node (Trap task to) e) i to t
  tidy_served files (Some (Apply to)) i e t = t

  module _ (checked : IsChecked d) (order : List ℕ) (o : IsOrder d order) (files : List File) where
    abbrev nets : State → List (List ℕ)
    nets = nets_of d files order

    abbrev done : Segment → Stage → Stage
    done g i = record i { state = segment_done (scope_of d files) g i.state }

    -- ---- tidy

    pub tidy_cycled : (x : Option Node) (i : Stage) → slice_get (T d).nodes i.node ≡ x → IsTidy d i → IsTidy d (cycled d files nets x i)
    tidy_cycled None i e t = t
    tidy_cycled (Some (Run g on)) i e t = tidy_goes d files checked order o on (done g i) (tidy_segment d files g (node_keeps i.node (Run g on) e) i t)
    tidy_cycled (Some (Trap task to)) i e t = t
    tidy_cycled (Some (Apply to)) i e t = tidy_update d files checked order o i to t

    -- ---- nets

    pub record Nets (i : Stage) : Type 0 where
      pub zero : zero_low d ≤ i.node → NetsAreZero d i
      pub hold : i.node < zero_low d → i.state.finished ≡ false → HoldNets d order files i

    run_nets : (g : Segment) (on : WayOn) (i : Stage) → slice_get (T d).nodes i.node ≡ Some (Run g on) → i.state.finished ≡ false → ends_wave on ≡ false → Nets i
        → Nets (goes_on d files nets on (segment_done (scope_of d files) g i.state) i.committed)
    run_nets g on i e f k p =
        let s = segment_done (scope_of d files) g i.state in
        let m = (goes_on d files nets on s i.committed).node in
        let w = node_keeps i.node (Run g on) e in
        let there = goes_to d files nets g on s i.committed k in
        record {
          zero = λ l. goes_zero d files nets on (done g i) k (segment_zero d files g w i (p.zero (run_starts d i.node m (Run g on) e there l)));
          hold = λ l h. (let alive : s.finished ≡ false = sym (goes_alive d files nets on s i.committed) ∙ h in
              goes_hold d files nets checked order on (done g i) k alive (segment_holds d files g w checked order i f alive (p.hold (run_stays d i.node m (Run g on) e there l) f)));
        }

    low_nets : (i : Stage) → i.node < zero_low d → (i.state.finished ≡ false → HoldNets d order files i) → Nets i
    low_nets i l h = record { zero = λ k. (let z : ⊥ = omega arith in absurd z); hold = λ k. h }

    pub nets_cycled : (x : Option Node) (i : Stage) → slice_get (T d).nodes i.node ≡ x → i.state.finished ≡ false → IsTidy d i → Nets i → Nets (cycled d files nets x i)
    nets_cycled None i e f t p = p
    nets_cycled (Some (Run g (Go to))) i e f t p = run_nets g (Go to) i e f refl p
    nets_cycled (Some (Run g (Branch u a b))) i e f t p = run_nets g (Branch u a b) i e f refl p
    nets_cycled (Some (Run g (Switch u ways other))) i e f t p = run_nets g (Switch u ways other) i e f refl p
    nets_cycled (Some (Run g (Commit to))) i e f t p =
        low_nets _ (commit_low d i.node to g e)
        (λ h. commit_holds d files checked order o (done g i) to h (tidy_segment d files g (node_keeps i.node (Run g (Commit to)) e) i t))
    nets_cycled (Some (Trap task to)) i e f t p = p
    nets_cycled (Some (Apply to)) i e f t p = low_nets _ (apply_low d i.node to e) (λ h. update_holds d files checked order o i to h t)

    pub nets_served : (x : Option Node) (i : Stage) → slice_get (T d).nodes i.node ≡ x → Nets i → Nets (served_by (scope_of d files) x i)
    nets_served None i e p = p
    nets_served (Some (Run g on)) i e p = p
    nets_served (Some (Trap task to)) i e p =
        let w = node_keeps i.node (Trap task to) e in
        let there = leads_trap task to in
        record {
          zero = λ l. call_zero d files task w i to (p.zero (run_starts d i.node to (Trap task to) e there l));
          hold = λ l h. call_holds d files task w checked order i to h (p.hold (run_stays d i.node to (Trap task to) e there l) (call_alive (scope_of d files) task i.state h));
        }
    nets_served (Some (Apply to)) i e p = p

-- ---- runs

pub start_zero : (o : Origin) (U : Table) (nets : State → List (List ℕ)) → NetsAreZero o.flat (first_stage o U nets None)
start_zero o U nets = record { zero = λ k c. zeros_index o.flat.rows k 0 }

pub start_holds : (o : Origin) (U : Table) → IsChecked o.flat → (order : List ℕ) → IsOrder o.flat order → (s : Snapshot) → StartsFine o.flat.rows (Some s)
    → HoldNets o.flat order o.files (first_stage o U (nets_of o.flat o.files order) (Some s))
start_holds o U checked order ord s h = settled_hold o.flat checked o.files order ord (resumed o.flat s).state refl h (kept_rest o.flat s.words) _

module _ (o : Origin) (w : WritesNoNets o.flat) (checked : IsChecked o.flat) (order : List ℕ) (ord : IsOrder o.flat order) (fine : StartsFine o.flat.rows o.resume) where
  abbrev all_nets : State → List (List ℕ)
  all_nets = nets_of o.flat o.files order

  first_tidy : (s : Option Snapshot) → StartsFine o.flat.rows s → IsTidy o.flat (first_stage o (table_of o.flat) all_nets s)
  first_tidy None h = record {
    fine = zeros_fine o.flat.rows;
    committed = zeros_fine o.flat.rows;
    later = All-nil (λ (u : Update). computed_at o.flat.rows u.signal ≡ false);
    rest = zeros_rest o.flat;
  }
  first_tidy (Some s) h = tidy_settled o.flat o.files checked order ord (resumed o.flat s).state _ h (All-nil (λ (u : Update). computed_at o.flat.rows u.signal ≡ false)) (kept_rest o.flat s.words)

  pub first_nets : (s : Option Snapshot) → StartsFine o.flat.rows s → Nets o.flat w checked order ord o.files (first_stage o (table_of o.flat) all_nets s)
  first_nets None h = record {
    zero = λ l. start_zero o (table_of o.flat) all_nets;
    hold = λ l f. (let z = zero_high o.flat in let y : ⊥ = omega arith in absurd y);
  }
  first_nets (Some s) h = record {
    zero = λ l. (let z = rise_low o.flat in let y : ⊥ = omega arith in absurd y);
    hold = λ l f. start_holds o (table_of o.flat) checked order ord s h;
  }

  pub comes_tidy : {c : ℕ} {i : Stage} → Comes o (table_of o.flat) all_nets c i → IsTidy o.flat i
  comes_tidy Comes.begins = first_tidy o.resume fine
  comes_tidy (cycles {i = i} x f h) = tidy_cycled o.flat w checked order ord o.files _ i refl (comes_tidy x)
  comes_tidy (serves {i = i} x h) = tidy_served o.flat w o.files _ i refl (comes_tidy x)

  pub comes_nets : {c : ℕ} {i : Stage} → Comes o (table_of o.flat) all_nets c i → Nets o.flat w checked order ord o.files i
  comes_nets Comes.begins = first_nets o.resume fine
  comes_nets (cycles {i = i} x f h) = nets_cycled o.flat w checked order ord o.files _ i refl f (comes_tidy x) (comes_nets x)
  comes_nets (serves {i = i} x h) = nets_served o.flat w checked order ord o.files _ i refl (comes_nets x)
