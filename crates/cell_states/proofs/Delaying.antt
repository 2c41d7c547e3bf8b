-- Behind a segment updates are pending of those signals alone that nonblocking assignments name.
use Rattle.std.proofs.Common.{◌≡◌, ℕ, zero, suc, ◌<◌, ◌≤◌, Bool, true, false, List, [], ◌∷◌, ◌++◌, Some, refl, sym, subst, ◌⊎◌, inl, inr}
use Rattle.std.specs.Prelude.{⊤, ◌==◌, ◌||◌, All, slice_get, slice_index_or, if◌then◌else◌}
use Rattle.std.specs.List.{list_any}
use Rattle.std.proofs.lemmas.List.Elements.{All-head, All-tail}
use Rattle.vl_design.specs.vl_base.specs.declared.files.File.{File}
use Rattle.vl_design.specs.Syntax.{Stm, Nop, Then, If, Case, For, Repeat, Set, Later, Sys, Items, NoItems, Labelled, Default, Proc, Flat}
use Rattle.vl_design.specs.Width.{Scope}
use Rattle.vl_design.specs.State.{State, Update, sample}
use Rattle.vl_design.specs.Targets.{spots, assignment}
use Rattle.vl_design.specs.Exec.{exec}
use Rattle.vl_design.specs.Functions.{scope_of}
use Rattle.vl_design.specs.Queue.{is_init, is_rise, is_fall, proc_at}
use Rattle.vl_design.specs.Reads.{target_writes}
use Rattle.vl_design.proofs.Acting.{Bodies, IsHereditary}
use Rattle.vl_design.proofs.Kept.{OfUpdates, of_updates, of_target}
use Rattle.vl_design.proofs.Leading.{AllIn, AllItems, Steps, exec_leads}
use Rattle.vl_design.proofs.Unread.{or_false}
use Rattle.ten_form.specs.vl_runs.proofs.Calming.{idle}
use Rattle.ten_form.specs.sub_nodes.specs.Nodes.{Segment, WayOn, Node, Run}
use Rattle.ten_form.specs.sub_nodes.specs.Code.{table_of}
use Rattle.ten_form.specs.sub_nodes.specs.Cycles.{ticked, execs, segment_done}
use Rattle.sub_runs.specs.Nets.{zero_low}
use Rattle.sub_runs.proofs.Calls.{call_later}
use Rattle.sub_runs.proofs.Parts.{NodeHas, blocks_have}
use Rattle.sub_runs.proofs.Regions.{below_or_not, low_has, high_has}
use Rattle.sub_runs.proofs.Writes.{updates_all}
use Rattle.ten_form.specs.Delays.{stm_delays, items_delay, is_delayed}

-- ---- statements

module _ (p : ℕ → Bool) where
  abbrev pub DelaysNone : Stm → Type 0
  DelaysNone a = stm_delays p a ≡ false

  none-bodies : (items : Items) → items_delay p items ≡ false → Bodies DelaysNone items
  none-bodies NoItems h = tt
  none-bodies (Labelled es a others) h = let g = or_false (stm_delays p a) (items_delay p others) h in (g.0, none-bodies others g.1)
  none-bodies (Default a others) h = let g = or_false (stm_delays p a) (items_delay p others) h in (g.0, none-bodies others g.1)

  pub parts : IsHereditary DelaysNone
  parts = record {
    none = refl;
    parts = λ a b h. or_false (stm_delays p a) (stm_delays p b) h;
    branches = λ t a b h. or_false (stm_delays p a) (stm_delays p b) h;
    items = λ e items h. none-bodies items h;
  }

  abbrev Named : Stm → Type 0
  Named a = AllIn (λ t. ⊤) (λ t. target_writes p t ≡ false) (λ task. ⊤) (λ j. ⊤) a

  mutual
    names-none : (a : Stm) → stm_delays p a ≡ false → Named a
    names-none Nop h = tt
    names-none (Then a b) h = let g = or_false (stm_delays p a) (stm_delays p b) h in (names-none a g.0, names-none b g.1)
    names-none (If t a b) h = let g = or_false (stm_delays p a) (stm_delays p b) h in (names-none a g.0, names-none b g.1)
    names-none (Case e items) h = items-none items h
    names-none (For j start test step a) h =
        let g = or_false (stm_delays p start) (stm_delays p step || stm_delays p a) h in
        let f = or_false (stm_delays p step) (stm_delays p a) g.1 in
        (tt, names-none start g.0, names-none step f.0, names-none a f.1)
    names-none (Repeat n a) h = names-none a h
    names-none (Set t e) h = tt
    names-none (Later t e) h = h
    names-none (Sys task) h = tt

    items-none : (items : Items) → items_delay p items ≡ false → AllItems (λ t. ⊤) (λ t. target_writes p t ≡ false) (λ task. ⊤) (λ j. ⊤) items
    items-none NoItems h = tt
    items-none (Labelled es a others) h = let g = or_false (stm_delays p a) (items_delay p others) h in (names-none a g.0, items-none others g.1)
    items-none (Default a others) h = let g = or_false (stm_delays p a) (items_delay p others) h in (names-none a g.0, items-none others g.1)

  both : (xs ys : List Update) → OfUpdates p xs → OfUpdates p ys → OfUpdates p (xs ++ ys)
  both [] ys f g = g
  both (x ∷ xs) ys f g = (f.0, both xs ys f.1 g)

  abbrev Stays : State → State → Type 0
  Stays s t = OfUpdates p s.later → OfUpdates p t.later

  module _ (scope : Scope) where
    steps-stay : Steps scope Stays (λ t. ⊤) (λ t. target_writes p t ≡ false) (λ task. ⊤) (λ j. ⊤)
    steps-stay = record {
      same = λ s f. f;
      next = λ a b c f g h. g (f h);
      counts = λ s f. f;
      sets = λ t e s h k f. f;
      delays = λ t e s h k f. both s.later (assignment scope (sample s) t e) f (of_updates p (spots scope (sample s) t) _ (of_target p scope (sample s) t h));
      calls = λ task s h k f. subst (OfUpdates p) (sym (call_later scope task s)) f;
      restores = λ j before s h f. f;
    }

    execs-stay : (xs : List Stm) → All DelaysNone xs → (s : State) → OfUpdates p s.later → OfUpdates p (execs scope xs s).later
    execs-stay [] h s f = f
    execs-stay (a ∷ xs) h s f =
        execs-stay xs (All-tail DelaysNone a xs h) (exec scope a s) (exec_leads scope Stays _ _ _ _ steps-stay a (names-none a (All-head DelaysNone a xs h)) s f)

    pub segment-stays : (g : Segment) → All DelaysNone g.statements → (s : State) → OfUpdates p s.later → OfUpdates p (segment_done scope g s).later
    segment-stays g h s f = at g.rises
      where
        at : (b : Bool) → OfUpdates p (execs scope g.statements (if b then ticked s else s)).later
        at true = execs-stay g.statements h (ticked s) f
        at false = execs-stay g.statements h s f

-- ---- nodes

module _ (d : Flat) (p : ℕ → Bool) (none : (i : ℕ) → stm_delays p (proc_at d i).body ≡ false) where
  pub node-delays : (n : ℕ) (x : Node) → slice_get (table_of d).nodes n ≡ Some x → NodeHas (DelaysNone p) (parts p) x
  node-delays n x e = at (below_or_not n (zero_low d))
    where
      at : (n < zero_low d) ⊎ (zero_low d ≤ n) → NodeHas (DelaysNone p) (parts p) x
      at (inl a) =
          low_has d (DelaysNone p) (parts p) (blocks_have (DelaysNone p) (parts p) is_rise d.procs (λ j h. none j))
          (blocks_have (DelaysNone p) (parts p) is_fall d.procs (λ j h. none j)) n x a e
      at (inr a) = high_has d (DelaysNone p) (parts p) (blocks_have (DelaysNone p) (parts p) is_init d.procs (λ j h. none j)) n x a e

-- a process by its number delays no signal that none of all delays
pub none-at : (k : ℕ) (procs : List Proc) (i : ℕ) → list_any (λ (a : Proc). stm_delays (λ j. j == k) a.body) procs ≡ false →
    stm_delays (λ j. j == k) (slice_index_or procs i idle).body ≡ false
none-at k [] i h = refl
none-at k (a ∷ procs) zero h = (or_false (stm_delays (λ j. j == k) a.body) (list_any (λ (b : Proc). stm_delays (λ j. j == k) b.body) procs) h).0
none-at k (a ∷ procs) (suc i) h = none-at k procs i (or_false (stm_delays (λ j. j == k) a.body) (list_any (λ (b : Proc). stm_delays (λ j. j == k) b.body) procs) h).1

of-none : (p : ℕ → Bool) (us : List Update) → All (λ (u : Update). p u.signal ≡ false) us → OfUpdates p us
of-none p [] h = tt
of-none p (u ∷ us) h = (All-head (λ (x : Update). p x.signal ≡ false) u us h, of-none p us (All-tail (λ (x : Update). p x.signal ≡ false) u us h))

-- none is pending of another behind a node's segment, where none was before it
pub segment-late : (d : Flat) (files : List File) (n : ℕ) (g : Segment) (on : WayOn) (s : State) (k : ℕ) → slice_get (table_of d).nodes n ≡ Some (Run g on) → is_delayed d k ≡ false → All (λ (u : Update). (u.signal == k) ≡ false) s.later →
    All (λ (u : Update). (u.signal == k) ≡ false) (segment_done (scope_of d files) g s).later
segment-late d files n g on s k at none h =
    let p : ℕ → Bool = λ j. j == k in
    updates_all p (segment_done (scope_of d files) g s).later
    (segment-stays p (scope_of d files) g (node-delays d p (λ i. none-at k d.procs i none) n (Run g on) at) s (of-none p s.later h))
