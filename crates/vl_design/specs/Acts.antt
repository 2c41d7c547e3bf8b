-- The run act by act: each call that does more than give a value, each choice of a branch that holds one, the end of
-- each wave and each update. This is told of designs whose loops are unrolled: a loop is one piece here (own; the
-- queue's events are those of IEEE 1364-2005, clause 11).
use Rattle.std.specs.Prelude.{◌≡◌, ℕ, zero, suc, ◌-◌, Bool, true, false, ◌||◌, List, [], ◌∷◌, if◌then◌else◌, Option, Some, None}
use Rattle.vl_base.specs.declared.files.File.{File}
use Rattle.vl_design.specs.declared.design.Form.{Form}
use Rattle.vl_design.specs.Syntax.{Stm, Nop, Then, If, Case, For, Repeat, Set, Later, Sys, Items, NoItems, Labelled, Default, Task, Proc, Flat}
use Rattle.vl_design.specs.Width.{Scope, form}
use Rattle.vl_design.specs.Value.{Sample, value}
use Rattle.vl_design.specs.State.{State, sample, counted}
use Rattle.vl_design.specs.Tasks.{called}
use Rattle.vl_design.specs.Exec.{exec, holds, items_hold, asks, is_true, items_form, some_match}
use Rattle.vl_design.specs.Functions.{scope_of}
use Rattle.vl_design.specs.Queue.{Queue, Phase, Wave, Ended, Updated, woken, changed, first_pending, wave_ended, updates_done, evaluated}
use Rattle.vl_design.specs.Snapshots.{Snapshot}
use Rattle.vl_design.specs.Alone.{Origin, start, resumed, risen}

-- ---- positions in a block

-- how far statements go before the next act: through, or up to a call or a choice, behind which the rest is left
pub data Pause : Type 0 where
  Through : (s : State) → Pause
  -- s is the state right before the call
  AtCall : (task : Task) (s : State) (rest : List Stm) → Pause
  -- the rest begins with the branch
  AtChoice : (s : State) (rest : List Stm) → Pause

-- the body of the default, or nothing
abbrev pub default_body : Items → Stm
default_body NoItems = Nop
default_body (Labelled es a others) = default_body others
default_body (Default a others) = a

-- the body of the first item with a label that matches v
abbrev pub chosen_body : Scope → Sample → ℕ → Form → Items → Stm → Stm
chosen_body scope s v c NoItems otherwise = otherwise
chosen_body scope s v c (Labelled es a others) otherwise = if some_match scope s c v es then a else chosen_body scope s v c others otherwise
chosen_body scope s v c (Default a others) otherwise = chosen_body scope s v c others otherwise

-- the branch that a case takes
abbrev pub branch_of : Scope → Sample → Stm → Stm
branch_of scope s (Case e items) =
    let c = items_form scope.names (form scope.names e) items in
    chosen_body scope s (value scope s e c) c items (default_body items)
branch_of scope s a = a

module _ (scope : Scope) where
  -- how far a statement goes; the rest stands behind it, and go is how far that goes
  abbrev pub upto : Stm → List Stm → (State → Pause) → State → Pause
  upto Nop rest go s = go s
  upto (Then a b) rest go s = upto a (b ∷ rest) (upto b rest go) s
  upto (If t a b) rest go s =
      if asks t || (holds scope s a || holds scope s b) then AtChoice s ((if is_true scope t s then a else b) ∷ rest)
      else go (exec scope (If t a b) s)
  upto (Case e items) rest go s =
      if items_hold scope s items then AtChoice s (branch_of scope (sample s) (Case e items) ∷ rest)
      else go (exec scope (Case e items) s)
  upto (For k a t b c) rest go s = go (exec scope (For k a t b c) s)
  upto (Repeat n a) rest go s = go (exec scope (Repeat n a) s)
  upto (Set t e) rest go s = go (exec scope (Set t e) s)
  upto (Later t e) rest go s = go (exec scope (Later t e) s)
  upto (Sys task) rest go s = AtCall task s rest

  abbrev pub uptos : List Stm → State → Pause
  uptos [] s = Through s
  uptos (a ∷ rest) s = upto a rest (uptos rest) s

-- ---- points of a run

-- between waves; or inside a block of a wave, of which the rest is left: the block began with the values `from`, and the
-- wave with the committed ones
pub data Point : Type 0 where
  Between : (q : Queue) → Point
  Inside : (q : Queue) (rest : List Stm) (from committed : List (List ℕ)) → Point

abbrev pub queue_at : Point → Queue
queue_at (Between q) = q
queue_at (Inside q rest from committed) = q

abbrev pub state_at : Point → State
state_at p = (queue_at p).state

-- the values that nets are computed from: those at the start of the wave that runs, or else those of the point
abbrev pub committed_at : Point → List (List ℕ)
committed_at (Between q) = q.state.values
committed_at (Inside q rest from committed) = committed

-- behind the last update of a tick
abbrev pub is_last : Phase → List (List Proc) → Bool
is_last Updated [] = true
is_last phase ahead = false

-- the point is at a boundary: its tick is over, and the next one has not begun
abbrev pub at_boundary : Point → Bool
at_boundary (Between q) = is_last q.phase q.ahead
at_boundary (Inside q rest from committed) = false

-- the tick of a point: that of the last boundary, or the ticks begun once the run has finished
abbrev pub tick_of : Point → ℕ
tick_of p = if (state_at p).finished || at_boundary p then (state_at p).ticks else (state_at p).ticks - 1

-- how far a wave goes before the next act: to its end, to a call, or to a choice
pub data Reached : Type 0 where
  Completes : (q : Queue) → Reached
  Calls : (task : Task) (q : Queue) (rest : List Stm) (from committed : List (List ℕ)) → Reached
  Chooses : (q : Queue) (rest : List Stm) (from committed : List (List ℕ)) → Reached

module _ (d : Flat) (files : List File) where
  -- a block that began with these values is done
  abbrev pub with_block : Queue → List (List ℕ) → State → Queue
  with_block q from s = record q { state = s; pending = woken (scope_of d files) (changed from s.values) d.procs q.pending }

  -- a block that began with the values `from`, in a wave that began with the committed ones, goes so far, and these
  -- processes are left, through which go goes
  abbrev pub by_pause : Queue → (from committed : List (List ℕ)) → List Proc → (Queue → Reached) → Pause → Reached
  by_pause q from committed ps go (Through s) = go (with_block q from s)
  by_pause q from committed ps go (AtCall task s rest) = Calls task (record q { state = s; phase = Wave ps }) rest from committed
  by_pause q from committed ps go (AtChoice s rest) = Chooses (record q { state = s; phase = Wave ps }) rest from committed

  abbrev pub through_blocks : (committed : List (List ℕ)) → List Proc → Queue → Reached
  through_blocks committed [] q = Completes q
  through_blocks committed (p ∷ ps) q =
      by_pause q q.state.values committed ps (through_blocks committed ps) (uptos (scope_of d files) (p.body ∷ []) q.state)

  -- how far the wave goes from a point, where these processes are left
  abbrev pub reach : Point → List Proc → Reached
  reach (Between q) left = through_blocks q.state.values left q
  reach (Inside q rest from committed) left =
      by_pause q from committed left (through_blocks committed left) (uptos (scope_of d files) rest q.state)

  -- ---- acts

  -- r is the first state in which no process is pending, from q on
  pub data Calms : Queue → Queue → Type 0 where
    calm : {q : Queue} → first_pending d.procs q.pending ≡ None → Calms q q
    goes : {q r : Queue} {p : Proc} → first_pending d.procs q.pending ≡ Some p → Calms (evaluated d files q p) r → Calms q r

  -- behind a tick's update its next wave begins, or the next tick, as the clock rises
  abbrev pub entered_by : Queue → Phase → List (List Proc) → Queue
  entered_by q Updated (w ∷ ws) = record q { phase = Wave w; ahead = ws }
  entered_by q Updated [] = risen d q
  entered_by q phase ahead = q

  -- the point with its next wave begun
  abbrev pub entered : Point → Point
  entered (Between q) = Between (entered_by q q.phase q.ahead)
  entered (Inside q rest from committed) = Inside q rest from committed

  -- the point after the act that was reached
  abbrev pub Did : Reached → Point → Type 0
  Did (Calls task q rest from committed) p = p ≡ Inside (record q { state = called (scope_of d files) task q.state }) rest from committed
  Did (Chooses q rest from committed) p = p ≡ Inside (record q { state = counted q.state }) rest from committed
  Did (Completes q) p = (r : Queue) × Calms (wave_ended q) r × (p ≡ Between r)

  -- one act leads from a point to the next
  pub data Act : Point → Point → Type 0 where
    of_wave : {p p' : Point} (left : List Proc) → (queue_at (entered p)).phase ≡ Wave left → Did (reach (entered p) left) p' → Act p p'
    updates : {q r : Queue} → q.phase ≡ Ended → Calms (updates_done d files q) r → Act (Between q) (Between r)

-- where the acts begin: before time zero, or at the settled snapshot
pub data Begins (o : Origin) : Option Snapshot → Point → Type 0 where
  from_nothing : Begins o None (Between (start o.flat))
  from_snapshot : {s : Snapshot} {q : Queue} → Calms o.flat o.files (resumed o.flat s) q → Begins o (Some s) (Between q)

-- the run right after act c
pub data After (o : Origin) : ℕ → Point → Type 0 where
  begins : {p : Point} → Begins o o.resume p → After o zero p
  acts : {c : ℕ} {p p' : Point} → After o c p → (state_at p).finished ≡ false → Act o.flat o.files p p' → After o (suc c) p'

-- the next act of a point is this call, and q is right before its effect
pub record NextIs (o : Origin) (p : Point) (task : Task) (q : Queue) (rest : List Stm) (from committed : List (List ℕ)) : Type 0 where
  pub left : List Proc
  pub alive : (state_at p).finished ≡ false
  pub in_wave : (queue_at (entered o.flat o.files p)).phase ≡ Wave left
  pub next : reach o.flat o.files (entered o.flat o.files p) left ≡ Calls task q rest from committed

-- the point right before the effect of act c, which is this call, with all statements before it done: act c is not
-- counted yet, so one act less than c is
pub data Before (o : Origin) : ℕ → Task → Point → Type 0 where
  before : {n : ℕ} {p : Point} (task : Task) (q : Queue) (rest : List Stm) (from committed : List (List ℕ))
      → After o n p → NextIs o p task q rest from committed → Before o (suc n) task (Inside q rest from committed)
