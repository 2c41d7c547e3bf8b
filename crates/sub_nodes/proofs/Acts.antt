-- A cycle of a design's table is one act, or comes to the trap of a call; and serving the trap is the act.
use Rattle.std.proofs.Common.{◌≡◌, ℕ, Bool, true, false, List, [], ◌∷◌, ◌++◌, refl, ◌∙◌}
use Rattle.std.specs.Prelude.{◌||◌, if◌then◌else◌}
use Rattle.vl_design.specs.vl_base.specs.declared.files.File.{File}
use Rattle.vl_design.specs.Syntax.{Stm, Nop, Then, If, Case, For, Repeat, Set, Later, Sys, Proc, Flat}
use Rattle.vl_design.specs.Width.{Scope}
use Rattle.vl_design.specs.State.{State, sample}
use Rattle.vl_design.specs.Exec.{exec, is_true, holds, items_hold, asks}
use Rattle.vl_design.specs.Functions.{scope_of}
use Rattle.vl_design.specs.Queue as queue
use Rattle.vl_design.specs.Queue.{Queue, Phase, Ended, Updated, is_init, is_rise, is_fall, with_updates, wave_ended, updates_done}
use Rattle.vl_design.specs.Acts.{Pause, Through, AtCall, AtChoice, branch_of, upto, uptos, Point, Between, Inside, state_at, committed_at, queue_at, Reached, Completes, Calls, Chooses, with_block, by_pause, through_blocks, reach}
use Rattle.sub_nodes.specs.Implements.{bodies}
use Rattle.sub_nodes.proofs.Steps.{step}
use Rattle.sub_nodes.proofs.Unrolled.{statements}

-- ---- how far a wave goes, as one list of statements

module _ (scope : Scope) (left : List Stm) where
  -- the pause of statements, behind which others stand
  abbrev more : Pause → Pause
  more (Through s) = uptos scope left s
  more (AtCall task s rest) = AtCall task s (rest ++ left)
  more (AtChoice s rest) = AtChoice s (rest ++ left)

  more_by : (held : Bool) (s : State) (x : Stm) (rest : List Stm) (p r : Pause) → p ≡ more r → (if held then AtChoice s (x ∷ (rest ++ left)) else p) ≡ more (if held then AtChoice s (x ∷ rest) else r)
  more_by true s x rest p r h = refl
  more_by false s x rest p r h = h

  upto_more : (x : Stm) (rest : List Stm) (go on : State → Pause) (s : State) → ((t : State) → on t ≡ more (go t)) → upto scope x (rest ++ left) on s ≡ more (upto scope x rest go s)
  upto_more Nop rest go on s h = h s
  upto_more (Then a b) rest go on s h = upto_more a (b ∷ rest) (upto scope b rest go) (upto scope b (rest ++ left) on) s (λ t. upto_more b rest go on t h)
  upto_more (If t a b) rest go on s h = more_by (asks t || (holds scope s a || holds scope s b)) s (if is_true scope t s then a else b) rest _ _ (h (exec scope (If t a b) s))
  upto_more (Case e items) rest go on s h = more_by (items_hold scope s items) s (branch_of scope (sample s) (Case e items)) rest _ _ (h (exec scope (Case e items) s))
  upto_more (For k start test step a) rest go on s h = h _
  upto_more (Repeat n a) rest go on s h = h _
  upto_more (Set t e) rest go on s h = h _
  upto_more (Later t e) rest go on s h = h _
  upto_more (Sys task) rest go on s h = refl

  uptos_more : (rest : List Stm) (s : State) → uptos scope (rest ++ left) s ≡ more (uptos scope rest s)
  uptos_more [] s = refl
  uptos_more (x ∷ rest) s = upto_more x rest (uptos scope rest) (uptos scope (rest ++ left)) s (uptos_more rest)

abbrev pub left_of : Phase → List Proc
left_of (queue.Wave left) = left
left_of Ended = []
left_of Updated = []

-- as a pause in the statements of a wave
abbrev pub as_pause : Reached → Pause
as_pause (Completes q) = Through q.state
as_pause (Calls task q rest from committed) = AtCall task q.state (rest ++ bodies (left_of q.phase))
as_pause (Chooses q rest from committed) = AtChoice q.state (rest ++ bodies (left_of q.phase))

-- an act of a block is in a wave, and leaves the waves that are still to come, and the committed values
abbrev pub InWave : List (List Proc) → List (List ℕ) → Reached → Type 0
InWave ahead kept (Completes q) = q.ahead ≡ ahead
InWave ahead kept (Calls task q rest from committed) = (q.phase ≡ queue.Wave (left_of q.phase)) × (q.ahead ≡ ahead) × (kept ≡ committed)
InWave ahead kept (Chooses q rest from committed) = (q.phase ≡ queue.Wave (left_of q.phase)) × (q.ahead ≡ ahead) × (kept ≡ committed)

module _ (d : Flat) (files : List File) where
  pause_is : (q : Queue) (from committed : List (List ℕ)) (left : List Proc) (p : Pause) → ((r : Queue) → uptos (scope_of d files) (bodies left) r.state ≡ as_pause (through_blocks d files committed left r))
      → more (scope_of d files) (bodies left) p ≡ as_pause (by_pause d files q from committed left (through_blocks d files committed left) p)
  pause_is q from committed left (Through s) h = h (with_block d files q from s)
  pause_is q from committed left (AtCall task s rest) h = refl
  pause_is q from committed left (AtChoice s rest) h = refl

  blocks_are : (committed : List (List ℕ)) (left : List Proc) (q : Queue) → uptos (scope_of d files) (bodies left) q.state ≡ as_pause (through_blocks d files committed left q)
  blocks_are committed [] q = refl
  blocks_are committed (p ∷ ps) q =
      uptos_more (scope_of d files) (bodies ps) (p.body ∷ []) q.state ∙ pause_is q q.state.values committed ps (uptos (scope_of d files) (p.body ∷ []) q.state) (blocks_are committed ps)

  pub reach_is : (p : Point) (left : List Proc) → uptos (scope_of d files) (statements p left) (state_at p) ≡ as_pause (reach d files p left)
  reach_is (Between q) left = blocks_are q.state.values left q
  reach_is (Inside q rest from committed) left =
      uptos_more (scope_of d files) (bodies left) rest q.state ∙ pause_is q from committed left (uptos (scope_of d files) rest q.state) (blocks_are committed left)

  pause_in : (ahead : List (List Proc)) (q : Queue) (from committed : List (List ℕ)) (left : List Proc) (p : Pause) → q.ahead ≡ ahead → ((r : Queue) → r.ahead ≡ ahead → InWave ahead committed (through_blocks d files committed left r))
      → InWave ahead committed (by_pause d files q from committed left (through_blocks d files committed left) p)
  pause_in ahead q from committed left (Through s) e h = h (with_block d files q from s) e
  pause_in ahead q from committed left (AtCall task s rest) e h = (refl, e, refl)
  pause_in ahead q from committed left (AtChoice s rest) e h = (refl, e, refl)

  blocks_in : (ahead : List (List Proc)) (committed : List (List ℕ)) (left : List Proc) (q : Queue) → q.ahead ≡ ahead → InWave ahead committed (through_blocks d files committed left q)
  blocks_in ahead committed [] q e = e
  blocks_in ahead committed (p ∷ ps) q e = pause_in ahead q q.state.values committed ps (uptos (scope_of d files) (p.body ∷ []) q.state) e (blocks_in ahead committed ps)

  pub reach_in : (p : Point) (left : List Proc) → InWave (queue_at p).ahead (committed_at p) (reach d files p left)
  reach_in (Between q) left = blocks_in q.ahead q.state.values left q refl
  reach_in (Inside q rest from committed) left = pause_in q.ahead q from committed left (uptos (scope_of d files) rest q.state) refl (blocks_in q.ahead committed left)
