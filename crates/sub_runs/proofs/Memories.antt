-- Memories stay as they are in the committed values from the end of time zero's wave on.
use Rattle.std.proofs.Common.{◌≡◌, ℕ, ◌<◌, Bool, true, false, List, [], ◌∷◌, Option, Some, None, refl, sym, ◌∙◌}
use Rattle.std.specs.Prelude.{⊤, ◌||◌, All, slice_get, if◌then◌else◌}
use Rattle.std.proofs.lemmas.List.Elements.{All-head, All-tail}
use Rattle.vl_sites.specs.vl_base.specs.declared.files.File.{File}
use Rattle.vl_sites.specs.vl_design.specs.Syntax.{Stm, Nop, Then, If, Case, For, Repeat, Set, Later, Sys, Items, NoItems, Labelled, Default, Flat}
use Rattle.vl_sites.specs.vl_design.specs.Width.{Scope}
use Rattle.vl_sites.specs.vl_design.specs.Value.{words_of}
use Rattle.vl_sites.specs.vl_design.specs.State.{State, sample}
use Rattle.vl_sites.specs.vl_design.specs.Exec.{exec}
use Rattle.vl_sites.specs.vl_design.specs.Functions.{scope_of}
use Rattle.vl_sites.specs.vl_design.specs.Reads.{target_writes, task_writes}
use Rattle.vl_sites.specs.vl_design.specs.Snapshots.{Snapshot}
use Rattle.vl_sites.specs.vl_design.specs.Alone.{Origin}
use Rattle.vl_sites.specs.vl_design.proofs.Unread.{or_false}
use Rattle.vl_sites.specs.vl_design.proofs.Leading.{AllIn, AllItems, Steps, exec_leads}
use Rattle.vl_sites.specs.vl_design.proofs.Kept.{words_other, assignment_keeps}
use Rattle.sub_nodes.specs.Nodes.{Segment, WayOn, Go, Branch, Switch, Commit, Node, Run, Trap, Apply}
use Rattle.sub_nodes.specs.Code.{table_of}
use Rattle.sub_nodes.specs.Cycles.{Stage, ticked, execs, segment_done, goes_on, cycled, served_by}
use Rattle.sub_nodes.specs.Stands.{first_stage, Comes, cycles, serves}
use Rattle.sub_runs.specs.Nets.{ends_wave, zero_low}
use Rattle.sub_runs.specs.Memories.{memory_at, stm_sets, items_set, SetsNoMemories, MemoriesHold}
use Rattle.sub_runs.proofs.Calls.{apart, call_keeps}
use Rattle.sub_runs.proofs.Parts.{NodeHas}
use Rattle.sub_runs.proofs.Regions.{low_has}
use Rattle.sub_runs.proofs.Comb.{SetsNone, parts_set_none, rises_set_none, falls_set_none}
use Rattle.sub_runs.proofs.Ways.{goes_to, leads_trap}
use Rattle.sub_runs.proofs.Coming.{run_stays}

-- ---- statements

module _ (p : ℕ → Bool) where
  mutual
    sets_none : (a : Stm) → stm_sets p a ≡ false → AllIn (λ t. target_writes p t ≡ false) (λ t. ⊤) (λ task. task_writes p task ≡ false) (λ j. p j ≡ false) a
    sets_none Nop h = tt
    sets_none (Then a b) h = let g = or_false (stm_sets p a) (stm_sets p b) h in (sets_none a g.0, sets_none b g.1)
    sets_none (If t a b) h = let g = or_false (stm_sets p a) (stm_sets p b) h in (sets_none a g.0, sets_none b g.1)
    sets_none (Case e items) h = items_set_none items h
    sets_none (For j start test step a) h =
        let g = or_false (p j) (stm_sets p start || (stm_sets p step || stm_sets p a)) h in
        let f = or_false (stm_sets p start) (stm_sets p step || stm_sets p a) g.1 in
        let e = or_false (stm_sets p step) (stm_sets p a) f.1 in
        (g.0, sets_none start f.0, sets_none step e.0, sets_none a e.1)
    sets_none (Repeat n a) h = sets_none a h
    sets_none (Set t e) h = h
    sets_none (Later t e) h = tt
    sets_none (Sys task) h = h

    items_set_none : (items : Items) → items_set p items ≡ false → AllItems (λ t. target_writes p t ≡ false) (λ t. ⊤) (λ task. task_writes p task ≡ false) (λ j. p j ≡ false) items
    items_set_none NoItems h = tt
    items_set_none (Labelled es a others) h = let g = or_false (stm_sets p a) (items_set p others) h in (sets_none a g.0, items_set_none others g.1)
    items_set_none (Default a others) h = let g = or_false (stm_sets p a) (items_set p others) h in (sets_none a g.0, items_set_none others g.1)

  module _ (k : ℕ) (marked : p k ≡ true) (scope : Scope) where
    abbrev Keeps : State → State → Type 0
    Keeps s t = words_of s.values k ≡ words_of t.values k

    steps_keep : Steps scope Keeps (λ t. target_writes p t ≡ false) (λ t. ⊤) (λ task. task_writes p task ≡ false) (λ j. p j ≡ false)
    steps_keep = record {
      same = λ s. refl;
      next = λ a b c f g. f ∙ g;
      counts = λ s. refl;
      sets = λ t e s h f. assignment_keeps p k marked scope (sample s) t e h s.values;
      delays = λ t e s h f. refl;
      calls = λ task s h f. call_keeps p k marked scope task s h;
      restores = λ j before s h f. f ∙ sym (words_other s.values j k _ (apart p k marked j h));
    }

    execs_set : (xs : List Stm) → All (SetsNone p) xs → (s : State) → words_of s.values k ≡ words_of (execs scope xs s).values k
    execs_set [] h s = refl
    execs_set (a ∷ xs) h s =
        exec_leads scope Keeps _ _ _ _ steps_keep a (sets_none a (All-head (SetsNone p) a xs h)) s ∙ execs_set xs (All-tail (SetsNone p) a xs h) (exec scope a s)

    pub segment_sets : (g : Segment) → All (SetsNone p) g.statements → (s : State) → words_of s.values k ≡ words_of (segment_done scope g s).values k
    segment_sets g h s = at g.rises
      where
        at : (b : Bool) → words_of s.values k ≡ words_of (execs scope g.statements (if b then ticked s else s)).values k
        at true = execs_set g.statements h (ticked s)
        at false = execs_set g.statements h s

-- ---- runs of tables

module _ (d : Flat) (w : SetsNoMemories d) (files : List File) (nets : State → List (List ℕ)) where
  node_sets : (n : ℕ) (x : Node) → n < zero_low d → slice_get (table_of d).nodes n ≡ Some x → NodeHas (SetsNone (memory_at d.rows)) (parts_set_none (memory_at d.rows)) x
  node_sets n x l e = low_has d (SetsNone (memory_at d.rows)) (parts_set_none (memory_at d.rows)) (rises_set_none d w) (falls_set_none d w) n x l e

  -- but in time zero's wave
  abbrev pub Hold : Stage → Type 0
  Hold i = i.node < zero_low d → MemoriesHold d i

  goes_words : (on : WayOn) (i : Stage) → ends_wave on ≡ false → MemoriesHold d i → MemoriesHold d (goes_on d files nets on i.state i.committed)
  goes_words (Go to) i e h = record { words = h.words }
  goes_words (Branch t a b) i e h = record { words = h.words }
  goes_words (Switch t ways other) i e h = record { words = h.words }
  goes_words (Commit to) i e h = let z : ⊥ = cc in absurd z

  run_words : (g : Segment) (on : WayOn) (i : Stage) → slice_get (table_of d).nodes i.node ≡ Some (Run g on) → ends_wave on ≡ false → Hold i
      → Hold (goes_on d files nets on (segment_done (scope_of d files) g i.state) i.committed)
  run_words g on i e k h l =
      let s = segment_done (scope_of d files) g i.state in
      let below = run_stays d i.node _ (Run g on) e (goes_to d files nets g on s i.committed k) l in
      let w = node_sets i.node (Run g on) below e in
      goes_words on (record i { state = s }) k
      (record { words = λ m c. sym (segment_sets (memory_at d.rows) m c (scope_of d files) g w i.state) ∙ (h below).words m c })

  words_cycled : (x : Option Node) (i : Stage) → slice_get (table_of d).nodes i.node ≡ x → Hold i → Hold (cycled d files nets x i)
  words_cycled None i e h = h
  words_cycled (Some (Run g (Go to))) i e h = run_words g (Go to) i e refl h
  words_cycled (Some (Run g (Branch t a b))) i e h = run_words g (Branch t a b) i e refl h
  words_cycled (Some (Run g (Switch t ways other))) i e h = run_words g (Switch t ways other) i e refl h
  words_cycled (Some (Run g (Commit to))) i e h = λ l. record { words = λ m c. refl }
  words_cycled (Some (Trap task to)) i e h = h
  words_cycled (Some (Apply to)) i e h = λ l. record { words = λ m c. refl }

  words_served : (x : Option Node) (i : Stage) → slice_get (table_of d).nodes i.node ≡ x → Hold i → Hold (served_by (scope_of d files) x i)
  words_served None i e h = h
  words_served (Some (Run g on)) i e h = h
  words_served (Some (Trap task to)) i e h = λ l. (let below = run_stays d i.node to (Trap task to) e (leads_trap task to) l in
      let w = node_sets i.node (Trap task to) below e in
      record { words = λ m c. sym (call_keeps (memory_at d.rows) m c (scope_of d files) task i.state w) ∙ (h below).words m c })
  words_served (Some (Apply to)) i e h = h

module _ (o : Origin) (w : SetsNoMemories o.flat) (nets : State → List (List ℕ)) where
  first_words : (s : Option Snapshot) → Hold o.flat w o.files nets (first_stage o (table_of o.flat) nets s)
  first_words None l = record { words = λ m c. refl }
  first_words (Some s) l = record { words = λ m c. refl }

  pub comes_words : {c : ℕ} {i : Stage} → Comes o (table_of o.flat) nets c i → i.node < zero_low o.flat → MemoriesHold o.flat i
  comes_words Comes.begins = first_words o.resume
  comes_words (cycles {i = i} x f h) = words_cycled o.flat w o.files nets _ i refl (comes_words x)
  comes_words (serves {i = i} x h) = words_served o.flat w o.files nets _ i refl (comes_words x)
