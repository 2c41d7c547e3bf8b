-- In a run of a design's table loop variables and clocks are 0, where no process writes them.
use Rattle.std.proofs.Common.{◌≡◌, ℕ, zero, suc, ◌<◌, ◌≤◌, Bool, true, false, List, [], ◌∷◌, Option, Some, None, refl, sym, ap, ◌∙◌, subst, ◌⊎◌, inl, inr}
use Rattle.std.specs.Prelude.{All, slice_get, slice_index, slice_index_or, if◌then◌else◌}
use Rattle.std.proofs.lemmas.List.Elements.{All-head, All-tail}
use Rattle.ten_core.specs.vl_base.specs.declared.files.File.{File}
use Rattle.ten_core.specs.vl_design.specs.Syntax.{Proc, Flat}
use Rattle.ten_core.specs.vl_design.specs.Value.{words_of}
use Rattle.ten_core.specs.vl_design.specs.State.{State, counted}
use Rattle.ten_core.specs.vl_design.specs.Exec.{exec}
use Rattle.ten_core.specs.vl_design.specs.Functions.{scope_of, zeros}
use Rattle.ten_core.specs.vl_design.specs.Queue.{is_init, is_rise, is_fall, proc_at, with_updates}
use Rattle.ten_core.specs.vl_design.specs.Reads.{stm_writes}
use Rattle.ten_core.specs.vl_design.specs.Snapshots.{Snapshot}
use Rattle.ten_core.specs.vl_design.specs.Alone.{Origin, resumed}
use Rattle.ten_core.specs.vl_design.proofs.Kept.{OfUpdates, exec_keeps, updates_keep}
use Rattle.sub_runs.specs.vl_runs.specs.Nets.{pass}
use Rattle.sub_runs.specs.vl_runs.specs.NetsOfSettle.{comb_at, run}
use Rattle.sub_runs.specs.vl_runs.proofs.Calming.{idle}
use Rattle.sub_split.specs.vl_sites.specs.Others.{other_at, WritesNoOthers}
use Rattle.sub_runs.proofs.Kept.{other_unkept, unkept_words}
use Rattle.sub_split.specs.sub_nodes.specs.Nodes.{WayOn, Go, Branch, Switch, Commit, Node, Run, Trap, Apply}
use Rattle.sub_split.specs.sub_nodes.specs.Code.{table_of}
use Rattle.sub_split.specs.sub_nodes.specs.Cycles.{Stage, committed_in, segment_done, settled, goes_on, cycled, served_by}
use Rattle.sub_split.specs.sub_nodes.specs.Stands.{first_stage, Comes, cycles, serves}
use Rattle.sub_runs.specs.Nets.{zero_low}
use Rattle.sub_runs.proofs.Calls.{call_later, call_keeps}
use Rattle.sub_runs.proofs.Parts.{NodeHas, blocks_have}
use Rattle.sub_runs.proofs.Regions.{below_or_not, low_has, high_has}
use Rattle.sub_runs.proofs.Starting.{zeros_index}
use Rattle.sub_runs.proofs.Writes.{WritesNone, parts_write_none, updates_all, segment_keeps, segment_stays}
use Rattle.ten_core.specs.ten_form.specs.Nets.{nets_of, HoldsNoOthers}

-- what no process of a list writes, none by its number writes
pub none-writes : (p : ℕ → Bool) (procs : List Proc) → All (λ (a : Proc). stm_writes p a.body ≡ false) procs → (i : ℕ) → stm_writes p (slice_index_or procs i idle).body ≡ false
none-writes p [] h i = refl
none-writes p (a ∷ procs) h zero = All-head (λ (b : Proc). stm_writes p b.body ≡ false) a procs h
none-writes p (a ∷ procs) h (suc i) = none-writes p procs (All-tail (λ (b : Proc). stm_writes p b.body ≡ false) a procs h) i

module _ (d : Flat) where
  abbrev p : ℕ → Bool
  p = other_at d.rows

  -- they are as at the beginning
  abbrev AreZero : List (List ℕ) → Type 0
  AreZero values = (k : ℕ) → p k ≡ true → words_of values k ≡ words_of (zeros d.rows) k

  -- now, and in the values committed last; and no pending update is of one
  record StayZero (i : Stage) : Type 0 where
    pub now : AreZero i.state.values
    pub before : AreZero i.committed
    pub later : OfUpdates p i.state.later

  holds : (i : Stage) → StayZero i → HoldsNoOthers d i.state i.committed
  holds i z = record {
    now = λ k m. ap (λ (ws : List ℕ). slice_index ws 0) (z.now k m) ∙ zeros_index d.rows k 0;
    before = λ k m. ap (λ (ws : List ℕ). slice_index ws 0) (z.before k m) ∙ zeros_index d.rows k 0;
    later = updates_all p i.state.later z.later;
  }

  module _ (w : WritesNoOthers d) (files : List File) (order : List ℕ) where
    abbrev nets : State → List (List ℕ)
    nets = nets_of d files order

    none : (i : ℕ) → stm_writes p (proc_at d i).body ≡ false
    none i = none-writes p d.procs w.procs i

    -- ---- where nets settle

    run-keeps : (k : ℕ) → p k ≡ true → (s : State) (i : ℕ) (values : List (List ℕ)) → words_of values k ≡ words_of (run d files s i values) k
    run-keeps k m s i values = at (comb_at d i)
      where
        at : (b : Bool) → words_of values k ≡ words_of (if b then (exec (scope_of d files) (proc_at d i).body (record s { values = values })).values else values) k
        at true = exec_keeps p k m (scope_of d files) (proc_at d i).body (none i) (record s { values = values })
        at false = refl

    pass-keeps : (k : ℕ) → p k ≡ true → (s : State) (is : List ℕ) (values : List (List ℕ)) → words_of values k ≡ words_of (pass (run d files s) is values) k
    pass-keeps k m s [] values = refl
    pass-keeps k m s (i ∷ is) values = run-keeps k m s i values ∙ pass-keeps k m s is (run d files s i values)

    nets-zero : (s : State) → AreZero s.values → AreZero (nets s)
    nets-zero s z k m = sym (pass-keeps k m s order s.values) ∙ z k m

    settled-zero : (n : ℕ) (s : State) → AreZero s.values → OfUpdates p s.later → StayZero (committed_in n (settled d files nets s))
    settled-zero n s z f = record { now = nets-zero s z; before = nets-zero s z; later = f }

    -- ---- nodes

    node-writes : (n : ℕ) (x : Node) → slice_get (table_of d).nodes n ≡ Some x → NodeHas (WritesNone p) (parts_write_none p) x
    node-writes n x e = at (below_or_not n (zero_low d))
      where
        at : (n < zero_low d) ⊎ (zero_low d ≤ n) → NodeHas (WritesNone p) (parts_write_none p) x
        at (inl a) =
            low_has d (WritesNone p) (parts_write_none p) (blocks_have (WritesNone p) (parts_write_none p) is_rise d.procs (λ j h. none j))
            (blocks_have (WritesNone p) (parts_write_none p) is_fall d.procs (λ j h. none j)) n x a e
        at (inr a) = high_has d (WritesNone p) (parts_write_none p) (blocks_have (WritesNone p) (parts_write_none p) is_init d.procs (λ j h. none j)) n x a e

    goes-zero : (on : WayOn) (s : State) (committed : List (List ℕ)) → AreZero s.values → AreZero committed → OfUpdates p s.later → StayZero (goes_on d files nets on s committed)
    goes-zero (Go to) s committed z b f = record { now = z; before = b; later = f }
    goes-zero (Branch t x y) s committed z b f = record { now = z; before = b; later = f }
    goes-zero (Switch e ways other) s committed z b f = record { now = z; before = b; later = f }
    goes-zero (Commit to) s committed z b f = settled-zero to (counted s) z f

    cycled-zero : (x : Option Node) (i : Stage) → slice_get (table_of d).nodes i.node ≡ x → StayZero i → StayZero (cycled d files nets x i)
    cycled-zero None i e z = z
    cycled-zero (Some (Run g on)) i e z =
        let scope = scope_of d files in
        let h = node-writes i.node (Run g on) e in
        goes-zero on (segment_done scope g i.state) i.committed (λ k m. sym (segment_keeps p scope k m g h i.state) ∙ z.now k m) z.before
        (segment_stays p scope g h i.state z.later)
    cycled-zero (Some (Trap task to)) i e z = z
    cycled-zero (Some (Apply to)) i e z =
        settled-zero to (counted (with_updates d.rows i.state)) (λ k m. sym (updates_keep p k m d.rows i.state.later z.later i.state.values) ∙ z.now k m) tt

    served-zero : (x : Option Node) (i : Stage) → slice_get (table_of d).nodes i.node ≡ x → StayZero i → StayZero (served_by (scope_of d files) x i)
    served-zero None i e z = z
    served-zero (Some (Run g on)) i e z = z
    served-zero (Some (Trap task to)) i e z =
        let scope = scope_of d files in
        record {
          now = λ k m. sym (call_keeps p k m scope task i.state (node-writes i.node (Trap task to) e)) ∙ z.now k m;
          before = z.before;
          later = subst (OfUpdates p) (sym (call_later scope task i.state)) z.later;
        }
    served-zero (Some (Apply to)) i e z = z

-- ---- runs

module _ (o : Origin) (order : List ℕ) (w : WritesNoOthers o.flat) where
  first-zero : (s : Option Snapshot) → StayZero o.flat (first_stage o (table_of o.flat) (nets_of o.flat o.files order) s)
  first-zero None = record { now = λ k m. refl; before = λ k m. refl; later = tt }
  first-zero (Some s) =
      settled-zero o.flat w o.files order (table_of o.flat).rise.first (resumed o.flat s).state
      (λ k m. unkept_words o.flat.rows s.words k (other_unkept (slice_get o.flat.rows k) m)) tt

  comes-zero : {c : ℕ} {i : Stage} → Comes o (table_of o.flat) (nets_of o.flat o.files order) c i → StayZero o.flat i
  comes-zero Comes.begins = first-zero o.resume
  comes-zero (cycles {i = i} x f h) = cycled-zero o.flat w o.files order _ i refl (comes-zero x)
  comes-zero (serves {i = i} x h) = served-zero o.flat w o.files order _ i refl (comes-zero x)

  pub none-held : (c : ℕ) (i : Stage) → Comes o (table_of o.flat) (nets_of o.flat o.files order) c i → HoldsNoOthers o.flat i.state i.committed
  none-held c i comes = holds o.flat i (comes-zero comes)
