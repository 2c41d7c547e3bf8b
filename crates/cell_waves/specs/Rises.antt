-- The clock's rise in cells: a tick more begins (IEEE 1364-2005, clause 17.7.1; own).
use Rattle.std.specs.Prelude.{◌≡◌, ℕ, ◌+◌, ◌^◌, ◌<◌}
use Rattle.ten_form.specs.vl_design.specs.Width.{Names}
use Rattle.ten_form.specs.vl_design.specs.State.{State, sample}
use Rattle.cell_emit.specs.cell_form.specs.Data.{ListData, BankData}
use Rattle.cell_emit.specs.cell_form.specs.Sound.{Shape}
use Rattle.cell_emit.specs.Slots.{held, AreSound, Longer, Nothing}
use Rattle.cell_emit.specs.Envs.{Env, IsSlot, Fits, Stands}

-- with at most four cells more, the entry of the time has one tick more, and a slot of 32 bits the new number of ticks
pub record Rises (at at' : Env) (old new : ListData) (ticks : ℕ) : Type 0 where
  pub longer : Longer Nothing 4 old new
  -- all other entries are as they were
  pub kept : at' ≡ record at { time = at'.time }
  pub time : IsSlot new at'.time 64
  pub slot : IsSlot new ticks 32
  pub fits : (names : Names) → Fits names old at → Fits names new at'
  pub stands : (names : Names) (z : Shape) (b : BankData) (s : State) → AreSound z old → Fits names old at → Stands names b old at (sample s) →
      s.ticks + 1 < 2 ^ 32 → Stands names b new at' (sample (record s { ticks = s.ticks + 1 }))
  pub counted : (names : Names) (z : Shape) (b : BankData) (s : State) → AreSound z old → Stands names b old at (sample s) → s.ticks + 1 < 2 ^ 32 →
      held b new ticks ≡ s.ticks + 1
