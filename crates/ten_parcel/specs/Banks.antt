-- What the bank of a machine at a boundary holds (own).
use Rattle.std.specs.Prelude.{◌≡◌, ℕ, []}
use Rattle.vl_eval.specs.vl_design.specs.Alone.{resumed}
use Rattle.vl_eval.specs.vl_design.specs.Functions.{fresh, zeros}
use Rattle.vl_eval.specs.vl_design.specs.State.{State}
use Rattle.vl_eval.specs.vl_design.specs.Syntax.{Flat}
use Rattle.vl_run.specs.declared.machine.Machine.{Machine}
use Rattle.ten_core.specs.cell_form.specs.Data.{BankData}
use Rattle.ten_core.specs.cell_form.specs.Sound.{shape_of}
use Rattle.sub_nodes.specs.Cycles.{committed_in}
use Rattle.ten_form.specs.Banks.{IsFor}
use Rattle.ten_form.specs.States.{HoldsStage}
use Rattle.ten_core.specs.ten_plan.specs.declared.held.Held.{Held}
use Rattle.ten_core.specs.ten_plan.specs.Held.{snapshot_of}

-- a state that has the machine's values, ticks and answer, and in which no update is pending
pub record IsStateAt (m : Machine) (s : State) : Type 0 where
  pub values : s.values ≡ m.values.items
  pub ticks : s.ticks ≡ m.ticks
  pub answer : s.answer ≡ m.answer
  pub later : s.later ≡ []

-- the bank is for the design, with so many slots, and holds each such state as one that is committed, where this node is next
pub record HoldsAt (d : Flat) (m : Machine) (slots node : ℕ) (b : BankData) : Type 0 where
  pub fits : IsFor d slots (shape_of b)
  pub holds : (s : State) → IsStateAt m s → HoldsStage d b (committed_in node s)

-- ---- a run that is resumed

-- before its words are put back: all values 0, behind so many ticks
abbrev pub state_before : Flat → Held → State
state_before d h = record (fresh (zeros d.rows)) { ticks = h.tick }

-- where it is resumed from what is held, before its nets settle
abbrev pub resumed_state : Flat → Held → State
resumed_state d h = (resumed d (snapshot_of d.rows h)).state

-- the bank is for the design, with so many slots, and holds that state as one that is committed, where this node is next
pub record HoldsResumed (d : Flat) (h : Held) (slots node : ℕ) (b : BankData) : Type 0 where
  pub fits : IsFor d slots (shape_of b)
  pub holds : HoldsStage d b (committed_in node (resumed_state d h))
