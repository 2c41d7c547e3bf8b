-- The state that a machine stands for, and what leads from one machine to another.
use Rattle.std.specs.Prelude.{◌≡◌, ℕ, map, All}
use Rattle.vl_design.specs.Syntax.{Stm}
use Rattle.vl_design.specs.Width.{Names, Scope}
use Rattle.vl_design.specs.Value.{Sample}
use Rattle.vl_design.specs.State.{State, sample}
use Rattle.vl_design.specs.Sound.{IsNamed}
use Rattle.vl_design.specs.Laws.{IsFine}
use Rattle.vl_design.specs.Exec.{exec}
use Rattle.vl_eval.specs.Updates.{update_of}
use Rattle.vl_run.specs.declared.machine.Machine.{Machine}

-- the state of a machine where so many counted acts were done
abbrev pub state_of : Machine → ℕ → State
state_of m count = record {
  values = m.values.items;
  later = map update_of m.later.items;
  printed = m.printed.items;
  table = m.table.items;
  saves = m.saves.items;
  answer = m.answer;
  ticks = m.ticks;
  finished = m.finished;
  count = count;
}

-- what expressions read of a machine
abbrev pub sample_in : Machine → Sample
sample_in m = sample (state_of m 0)

-- the values are as the signals have them, and each update is of a signal that is there
pub record IsMachine (names : Names) (m : Machine) : Type 0 where
  pub fine : IsFine names.rows m.values.items
  pub later : All (λ u. IsNamed names u.signal) m.later.items

-- a step leads from the state of one machine to that of the other, however many counted acts were done before
pub record Leads (step : State → State) (m m' : Machine) : Type 0 where
  pub leads : (c : ℕ) → (c' : ℕ) × (step (state_of m c) ≡ state_of m' c')

-- a statement does
abbrev pub Does : Scope → Stm → Machine → Machine → Type 0
Does scope a m m' = Leads (exec scope a) m m'
