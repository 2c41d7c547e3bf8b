-- What the proofs keep: the rules as they use them, and what holds of queues until the run has finished.
use Rattle.std.proofs.Common.{◌≡◌, ℕ, ◌<◌, Bool, true, false, List, [], ◌∷◌, length}
use Rattle.std.specs.Prelude.{◌&&◌, ◌⊎◌, ◌==◌, ⊤}
use Rattle.vl_paths.specs.vl_base.specs.declared.files.File.{File}
use Rattle.vl_paths.specs.vl_design.specs.Syntax.{Stm, Proc, Flat}
use Rattle.vl_paths.specs.vl_design.specs.Width.{names_of}
use Rattle.vl_paths.specs.vl_design.specs.State.{State}
use Rattle.vl_paths.specs.vl_design.specs.Functions.{scope_of, zeros, fresh}
use Rattle.vl_paths.specs.vl_design.specs.Queue.{Queue, Phase, Wave, Ended, Updated, changed, proc_at}
use Rattle.vl_paths.specs.vl_design.specs.Reads.{stm_writes, stm_timed}
use Rattle.vl_paths.specs.vl_design.specs.Turns.{turns_read}
use Rattle.vl_paths.specs.vl_design.specs.Laws.{IsFine, can_act}
use Rattle.vl_paths.specs.vl_design.proofs.Kept.{OfUpdates}
use Rattle.vl_paths.specs.Bits.{Bit}
use Rattle.vl_paths.specs.Paths.{always}
use Rattle.vl_paths.specs.Touched.{touched}
use Rattle.vl_paths.specs.Nets.{IsNetStm}
use Rattle.vl_paths.specs.Graph.{drives, reads}
use Rattle.vl_runs.specs.Queue.{is_pending}
use Rattle.vl_runs.specs.Nets.{Lawful}
use Rattle.vl_runs.specs.NetsOfSettle.{Place, bit_at, is_memory, comb_at, run, IsSolved}

-- the statement writes no signal of which a combinational process drives a bit
abbrev pub IsApart : Flat → Stm → Type 0
IsApart d a = (i : ℕ) (x : Bit) → drives d i x ≡ true → stm_writes (λ k. k == x.signal) a ≡ false

-- what each process of a checked design meets
pub record IsAccepted (d : Flat) : Type 0 where
  pub nets : (i : ℕ) → comb_at d i ≡ true → IsNetStm (is_memory d.rows) (proc_at d i).body
  pub quiet : (i : ℕ) → comb_at d i ≡ true → can_act (proc_at d i).body ≡ false
  pub timeless : (i : ℕ) → comb_at d i ≡ true → stm_timed (proc_at d i).body ≡ false
  -- what it may assign it always assigns
  pub total : (i : ℕ) → comb_at d i ≡ true → (b : Bit) → touched (names_of d) b (proc_at d i).body ≡ true → always (names_of d) b (proc_at d i).body ≡ true
  pub once : (i j : ℕ) (b : Bit) → drives d i b ≡ true → drives d j b ≡ true → i ≡ j
  pub apart : (j : ℕ) → comb_at d j ≡ false → IsApart d (proc_at d j).body

-- ---- evaluations, as settling has them

abbrev pub drives_place : Flat → ℕ → Place → Bool
drives_place d i b = drives d i b.0

abbrev pub reads_place : Flat → ℕ → Place → Bool
reads_place d i b = reads d i b.0

-- process i is woken where v became w
abbrev pub wakes : Flat → List File → List (List ℕ) → List (List ℕ) → ℕ → Bool
wakes d files v w i = comb_at d i && turns_read (scope_of d files) (changed v w) (proc_at d i).body (fresh (zeros d.rows))

abbrev pub Laws : Flat → List File → State → Type 0
Laws d files s = Lawful bit_at (IsFine d.rows) (run d files s) (wakes d files) (drives_place d) (reads_place d) (length d.procs)

-- ---- queues

-- each combinational process is pending or solved
pub record IsReady (d : Flat) (files : List File) (q : Queue) : Type 0 where
  pub fine : IsFine d.rows q.state.values
  pub many : length q.pending ≡ length d.procs
  pub only : (i : ℕ) → is_pending q.pending i ≡ true → comb_at d i ≡ true
  pub each : (i : ℕ) → i < length d.procs → (is_pending q.pending i ≡ true) ⊎ IsSolved d files q.state i

abbrev pub AreApart : Flat → List Proc → Type 0
AreApart d [] = ⊤
AreApart d (p ∷ ps) = IsApart d p.body × AreApart d ps

abbrev pub AreWaves : Flat → List (List Proc) → Type 0
AreWaves d [] = ⊤
AreWaves d (w ∷ ws) = AreApart d w × AreWaves d ws

abbrev pub OfPhase : Flat → Phase → Type 0
OfPhase d (Wave ps) = AreApart d ps
OfPhase d Ended = ⊤
OfPhase d Updated = ⊤

-- and what is still to be done keeps driven bits
pub record IsSteady (d : Flat) (files : List File) (q : Queue) : Type 0 where
  pub ready : IsReady d files q
  pub later : (i : ℕ) (x : Bit) → drives d i x ≡ true → OfUpdates (λ k. k == x.signal) q.state.later
  pub phase : OfPhase d q.phase
  pub ahead : AreWaves d q.ahead
