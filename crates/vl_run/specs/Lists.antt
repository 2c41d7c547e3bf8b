-- Targets and loops (IEEE 1364-2005, clauses 9.2 and 9.6).
use Rattle.std.specs.Prelude.{⊤, ◌≡◌, ℕ, ℤ, List, [], ◌∷◌, ◌++◌, All, map, pos}
use Rattle.vl_design.specs.declared.design.StmtNode as s
use Rattle.vl_design.specs.declared.design.Target.{Target as TargetCode}
use Rattle.vl_design.specs.Syntax.{Targets, NoTargets, MoreTargets, Stm, For}
use Rattle.vl_design.specs.Targets.{Spot, spots_width}
use Rattle.vl_design.specs.Trees.{target_of}
use Rattle.vl_design.specs.Width.{Names, Scope, signal_form}
use Rattle.vl_design.specs.State.{State}
use Rattle.vl_design.specs.Exec.{exec, turns, goes_on}
use Rattle.vl_eval.specs.declared.spot.Spot.{Spot as SpotCode}
use Rattle.vl_eval.specs.Spots.{spot_of, IsSoundSpot}

abbrev pub targets_of : List TargetCode → Targets
targets_of [] = NoTargets
targets_of (x ∷ xs) = MoreTargets (target_of x) (targets_of xs)

-- a whole word of a signal
abbrev pub whole_at : Names → ℕ → ℕ → Spot
whole_at names k word = record { signal = k; word = word; low = pos 0; width = (signal_form names.rows k).width }

-- so many bits of a word, from a bit on
abbrev pub part_of : Spot → ℤ → ℕ → Spot
part_of p low width = record { signal = p.signal; word = p.word; low = low; width = width }

-- spots of a target of so many bits stand behind other spots
pub record Spotted (names : Names) (old new : List SpotCode) (spots : List Spot) (bits : ℕ) : Type 0 where
  pub are : map spot_of new ≡ map spot_of old ++ spots
  pub sound : All (IsSoundSpot names) old → All (IsSoundSpot names) new
  pub width : spots_width spots ≡ bits

-- so many turns of a loop, as long as it goes on
abbrev pub loop_turns : Scope → ℕ → Stm → State → State
loop_turns scope n (For k start test step a) s = turns n (goes_on scope test) (λ t. exec scope step (exec scope a t)) s
loop_turns scope n a s = s

-- the statement is a `for`
abbrev pub IsForNode : s.StmtNode → Type 0
IsForNode (s.For' k at q start test at' r step at'' u a) = ⊤
IsForNode n = ⊥
