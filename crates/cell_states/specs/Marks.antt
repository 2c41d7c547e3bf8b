-- Marks of the signals that nonblocking assignments name (IEEE 1364-2005, clause 9.2.2; own).
use Rattle.std.specs.Prelude.{◌≡◌, ℕ, ◌<◌, Bool, true, false, List, [], ◌∷◌, ◌++◌, length, slice_set, slice_index_or}
use Rattle.vl_design.specs.Placed as p
use Rattle.vl_design.specs.Syntax.{Flat}
use Rattle.ten_form.specs.Delays.{is_delayed}

abbrev mutual
  -- the signals that a left side names
  pub target_signals : p.Target → List ℕ
  target_signals (p.Whole at k) = k ∷ []
  target_signals (p.WordAt at m a) = m ∷ []
  target_signals (p.PickAt at b i from w) = target_signals b
  target_signals (p.SliceAt at b low w) = target_signals b
  target_signals (p.Several at ts) = targets_signals ts

  pub targets_signals : p.Targets → List ℕ
  targets_signals p.NoTargets = []
  targets_signals (p.MoreTargets t ts) = target_signals t ++ targets_signals ts

abbrev mutual
  -- the signals that nonblocking assignments in a statement name
  pub stm_signals : p.Stm → List ℕ
  stm_signals (p.Nop at) = []
  stm_signals (p.Seq at list) = stms_signals list
  stm_signals (p.If at t a b) = stm_signals a ++ stm_signals b
  stm_signals (p.Case at e items wild) = items_signals items
  stm_signals (p.For at k start test step a) = stm_signals start ++ (stm_signals step ++ stm_signals a)
  stm_signals (p.Repeat at n a) = stm_signals a
  stm_signals (p.Set at t e) = []
  stm_signals (p.Later at t e) = target_signals t
  stm_signals (p.Task at name given) = []

  pub stms_signals : p.Stms → List ℕ
  stms_signals p.NoStms = []
  stms_signals (p.MoreStms a others) = stm_signals a ++ stms_signals others

  pub items_signals : p.Items → List ℕ
  items_signals p.NoItems = []
  items_signals (p.MoreItems es a others) = stm_signals a ++ items_signals others

-- those in processes
abbrev pub procs_signals : List p.Process → List ℕ
procs_signals [] = []
procs_signals (a ∷ others) = stm_signals a.body ++ procs_signals others

-- marks, and those of these signals set
abbrev pub marked : List Bool → List ℕ → List Bool
marked marks [] = marks
marked marks (k ∷ others) = marked (slice_set marks k true) others

-- of each signal of a design whether a nonblocking assignment names it
pub record AreDelayed (d : Flat) (marks : List Bool) : Type 0 where
  pub many : length marks ≡ length d.rows
  pub each : (k : ℕ) → k < length d.rows → slice_index_or marks k false ≡ is_delayed d k
