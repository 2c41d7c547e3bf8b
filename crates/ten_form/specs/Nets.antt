-- What nets are over the values committed last (IEEE 1364-2005, clauses 6.1 and 9.7.5; own).
use Rattle.std.specs.Prelude.{◌≡◌, ℕ, true, false, All, List, [], ◌∷◌, map, if◌then◌else◌}
use Rattle.vl_design.specs.vl_base.specs.declared.files.File.{File}
use Rattle.vl_design.specs.Syntax.{Row, Flat}
use Rattle.vl_design.specs.Width.{names_of}
use Rattle.vl_design.specs.Value.{value_of, words_of}
use Rattle.vl_design.specs.State.{State}
use Rattle.vl_design.specs.Sound.{IsSignal, IsMemory}
use Rattle.vl_design.specs.Laws.{IsFine}
use Rattle.cell_emit.specs.vl_sites.specs.Others.{other_at}
use Rattle.vl_runs.specs.Nets.{pass}
use Rattle.vl_runs.specs.NetsOfSettle.{run}
use Rattle.vl_runs.specs.Computed.{is_computed, computed_at}

-- values with those of signals that combinational processes compute taken as 0
abbrev pub cleared : List Row → List (List ℕ) → List (List ℕ)
cleared [] values = []
cleared (r ∷ rs) [] = []
cleared (r ∷ rs) (words ∷ values) = (if is_computed r.kind then map (λ x. 0) words else words) ∷ cleared rs values

-- what the nets settle in, in a state: one pass in order
abbrev pub nets_of : Flat → List File → List ℕ → State → List (List ℕ)
nets_of d files order s = pass (run d files s) order s.values

-- computed signals have the values that one pass over the committed values gives
abbrev pub NetsHold : Flat → List File → List ℕ → State → List (List ℕ) → Type 0
NetsHold d files order s committed = (k : ℕ) → IsSignal (names_of d) k → computed_at d.rows k ≡ true →
    value_of s.values k ≡ value_of (pass (run d files s) order (cleared d.rows committed)) k

-- what holds of a state of a run behind time zero's wave, and of the values committed last
pub record IsTidy (d : Flat) (files : List File) (order : List ℕ) (s : State) (committed : List (List ℕ)) : Type 0 where
  pub fine : IsFine d.rows s.values
  pub committed_fine : IsFine d.rows committed
  pub nets : NetsHold d files order s committed
  -- waves leave memories as they were
  pub memories : (m : ℕ) → IsMemory (names_of d) m → words_of committed m ≡ words_of s.values m

-- loop variables and clocks are 0, now and in the values committed last, and no pending update is of one
pub record HoldsNoOthers (d : Flat) (s : State) (committed : List (List ℕ)) : Type 0 where
  pub now : (k : ℕ) → other_at d.rows k ≡ true → value_of s.values k ≡ 0
  pub before : (k : ℕ) → other_at d.rows k ≡ true → value_of committed k ≡ 0
  pub later : All (λ u. other_at d.rows u.signal ≡ false) s.later
