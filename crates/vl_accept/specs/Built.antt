-- What the elaboration of a source makes of processes, beside soundness (IEEE 1364-2005, clauses 6.1, 9.2 and 17; own).
use Rattle.std.specs.Prelude.{◌≡◌, Bool, true, false, List, ⊤}
use Rattle.std.specs.List.{list_any}
use Rattle.vl_check.specs.vl_design.specs.declared.design.ProcKind.TheVariants.{Assign}
use Rattle.vl_check.specs.vl_design.specs.declared.design.Signal.{Signal}
use Rattle.vl_check.specs.vl_design.specs.Placed.{Target, Whole, WordAt, PickAt, SliceAt, Several, Targets, NoTargets, MoreTargets, Stm, Nop, Seq, If, Case, For, Repeat, Set, Later, Task, Process}
use Rattle.vl_check.specs.vl_design.specs.Plainly as plain
use Rattle.vl_check.specs.vl_design.specs.Queue.{is_comb}
use Rattle.vl_check.specs.vl_design.specs.Reads.{stm_timed}
use Rattle.vl_check.specs.vl_sites.specs.Sites.{sites}
use Rattle.vl_check.specs.Rules.{sets}
use Rattle.vl_runs.specs.vl_paths.specs.Bits.{is_constant}
use Rattle.cell_level.specs.vl_bits.specs.Drivers.{is_assign, is_net}

abbrev mutual
  -- each index in the left side is constant
  pub HasConstants : Target → Type 0
  HasConstants (Whole at k) = ⊤
  HasConstants (WordAt at m a) = ⊤
  HasConstants (PickAt at base i from w) = HasConstants base × (is_constant (plain.exp i) ≡ true)
  HasConstants (SliceAt at base low w) = HasConstants base
  HasConstants (Several at ts) = HaveConstants ts

  pub HaveConstants : Targets → Type 0
  HaveConstants NoTargets = ⊤
  HaveConstants (MoreTargets t ts) = HasConstants t × HaveConstants ts

-- one assignment, in whose left side each index is constant
abbrev pub IsContinuous : Stm → Type 0
IsContinuous (Set at t x) = HasConstants t
IsContinuous (Nop at) = ⊥
IsContinuous (Seq at as') = ⊥
IsContinuous (If at t a b) = ⊥
IsContinuous (Case at x is wild) = ⊥
IsContinuous (For at k start test step a) = ⊥
IsContinuous (Repeat at n a) = ⊥
IsContinuous (Later at t x) = ⊥
IsContinuous (Task at name given) = ⊥

pub record IsBuilt (signals : List Signal) (a : Process) : Type 0 where
  -- a continuous assignment is to constant selects
  pub continuous : a.kind ≡ Assign → IsContinuous a.body
  -- a combinational process asks neither for the time nor for the answer of a system function
  pub timeless : is_comb a.kind ≡ true → stm_timed (plain.stm a.path a.body) ≡ false
  -- only continuous assignments are to nets
  pub nets : is_assign a.kind ≡ false → list_any (λ s. sets (is_net signals) s.what) (sites a.body) ≡ false
