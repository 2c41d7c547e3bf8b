-- Where cycles and served calls lead, and that only a rise begins a tick.
use Rattle.std.proofs.Common.{◌≡◌, ℕ, ◌+◌, Bool, true, false, List, [], ◌∷◌, map, Option, Some, None, refl, sym, ◌∙◌}
use Rattle.std.specs.Prelude.{All, if◌then◌else◌, slice_get}
use Rattle.std.proofs.lemmas.List.Elements.{All-head, All-tail}
use Rattle.vl_sites.specs.vl_base.specs.declared.files.File.{File}
use Rattle.vl_sites.specs.vl_base.specs.Files as file
use Rattle.vl_sites.specs.vl_design.specs.declared.design.Form.{Form}
use Rattle.vl_sites.specs.vl_design.specs.Syntax.{Stm, Task, Print, Finish, Save, Fopen, Fread, Fgetc, Feof, Fclose, ReadHex, Row, Flat}
use Rattle.vl_sites.specs.vl_design.specs.Width.{Scope}
use Rattle.vl_sites.specs.vl_design.specs.Value.{Sample}
use Rattle.vl_sites.specs.vl_design.specs.State.{State}
use Rattle.vl_sites.specs.vl_design.specs.Tasks.{called, memory_read}
use Rattle.vl_sites.specs.vl_design.specs.Exec.{exec, is_true, some_match}
use Rattle.vl_sites.specs.vl_design.specs.Functions.{scope_of}
use Rattle.vl_sites.specs.vl_design.proofs.Returning.{exec_ticks}
use Rattle.sub_nodes.specs.Nodes.{Segment, Way, WayOn, Go, Branch, Switch, Commit, Node, Run, Trap, Apply}
use Rattle.sub_nodes.specs.Cycles.{Stage, ticked, way_of, is_trap, rises, execs, segment_done, goes_on, cycled, served_by}
use Rattle.sub_nodes.specs.Early.{next_of}

-- ---- where they lead

module _ (P : ℕ → Type 0) where
  either_in : (b : Bool) (j k : ℕ) → P j → P k → P (if b then j else k)
  either_in true j k f g = f
  either_in false j k f g = g

  way_in : (scope : Scope) (s : Sample) (v : ℕ) (c : Form) (ws : List Way) (other : ℕ) → P other → All P (map (λ w. w.to) ws) → P (way_of scope s v c ws other)
  way_in scope s v c [] other f g = f
  way_in scope s v c (w ∷ ws) other f g =
      either_in (some_match scope s c v w.labels) w.to (way_of scope s v c ws other) (All-head P w.to (map (λ w. w.to) ws) g)
      (way_in scope s v c ws other f (All-tail P w.to (map (λ w. w.to) ws) g))

  -- a cycle leads to one of the nodes with which a run may go on
  pub next_in : (d : Flat) (files : List File) (nets : State → List (List ℕ)) (x : Node) (i : Stage) → is_trap (Some x) ≡ false → All P (next_of x)
      → P (cycled d files nets (Some x) i).node
  next_in d files nets (Run g (Go to)) i h f = All-head P to [] f
  next_in d files nets (Run g (Branch t a b)) i h f =
      either_in (is_true (scope_of d files) t (segment_done (scope_of d files) g i.state)) a b (All-head P a (b ∷ []) f) (All-head P b [] (All-tail P a (b ∷ []) f))
  next_in d files nets (Run g (Switch e ways other)) i h f =
      way_in (scope_of d files) _ _ _ ways other (All-head P other (map (λ w. w.to) ways) f) (All-tail P other (map (λ w. w.to) ways) f)
  next_in d files nets (Run g (Commit to)) i h f = All-head P to [] f
  next_in d files nets (Trap task to) i h f = let z : ⊥ = cc in absurd z
  next_in d files nets (Apply to) i h f = All-head P to [] f

  -- and so does a served call
  pub served_in : (scope : Scope) (x : Node) (i : Stage) → is_trap (Some x) ≡ true → All P (next_of x) → P (served_by scope (Some x) i).node
  served_in scope (Run g on) i h f = let z : ⊥ = cc in absurd z
  served_in scope (Trap task to) i h f = All-head P to [] f
  served_in scope (Apply to) i h f = let z : ⊥ = cc in absurd z

-- ---- ticks

execs_ticks : (scope : Scope) (xs : List Stm) (s : State) → s.ticks ≡ (execs scope xs s).ticks
execs_ticks scope [] s = refl
execs_ticks scope (x ∷ xs) s = exec_ticks scope x s ∙ execs_ticks scope xs (exec scope x s)

either_ticks : (b : Bool) (s : State) → (if b then ticked s else s).ticks ≡ (if b then s.ticks + 1 else s.ticks)
either_ticks true s = refl
either_ticks false s = refl

segment_ticks : (scope : Scope) (g : Segment) (s : State) → (segment_done scope g s).ticks ≡ (if g.rises then s.ticks + 1 else s.ticks)
segment_ticks scope g s = sym (execs_ticks scope g.statements (if g.rises then ticked s else s)) ∙ either_ticks g.rises s

module _ (d : Flat) (files : List File) (nets : State → List (List ℕ)) where
  on_ticks : (on : WayOn) (s : State) (committed : List (List ℕ)) → (goes_on d files nets on s committed).state.ticks ≡ s.ticks
  on_ticks (Go to) s committed = refl
  on_ticks (Branch t a b) s committed = refl
  on_ticks (Switch e ways other) s committed = refl
  on_ticks (Commit to) s committed = refl

  pub cycle_ticks : (x : Option Node) (i : Stage) → (cycled d files nets x i).state.ticks ≡ (if rises x then i.state.ticks + 1 else i.state.ticks)
  cycle_ticks None i = refl
  cycle_ticks (Some (Run g on)) i = on_ticks on (segment_done (scope_of d files) g i.state) i.committed ∙ segment_ticks (scope_of d files) g i.state
  cycle_ticks (Some (Trap task to)) i = refl
  cycle_ticks (Some (Apply to)) i = refl

memory_ticks : (m : ℕ) (r : Option Row) (text : Option (List ℕ)) (s : State) → (memory_read m r text s).ticks ≡ s.ticks
memory_ticks m None text s = refl
memory_ticks m (Some r) None s = refl
memory_ticks m (Some r) (Some text) s = refl

call_ticks : (scope : Scope) (task : Task) (s : State) → (called scope task s).ticks ≡ s.ticks
call_ticks scope (Print pieces newline) s = refl
call_ticks scope (Finish es) s = refl
call_ticks scope (Save name) s = refl
call_ticks scope (Fopen name) s = refl
call_ticks scope (Fread j fd) s = refl
call_ticks scope (Fgetc fd) s = refl
call_ticks scope (Feof fd) s = refl
call_ticks scope (Fclose fd) s = refl
call_ticks scope (ReadHex name m) s = memory_ticks m (slice_get scope.names.rows m) (file.contents scope.files name) s

pub served_ticks : (scope : Scope) (x : Option Node) (i : Stage) → (served_by scope x i).state.ticks ≡ i.state.ticks
served_ticks scope None i = refl
served_ticks scope (Some (Run g on)) i = refl
served_ticks scope (Some (Trap task to)) i = call_ticks scope task i.state
served_ticks scope (Some (Apply to)) i = refl
