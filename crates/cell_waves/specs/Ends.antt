-- The writes at the end of a segment, and of a wave (IEEE 1364-2005, clauses 9.2.2 and 11.4; own).
use Rattle.std.specs.Prelude.{◌≡◌, ℕ, ◌<◌, ◌^◌, ◌==◌, All, Bool, false, if◌then◌else◌, List, length, None}
use Rattle.std.specs.List.{AllByRecursion}
use Rattle.ten_form.specs.vl_design.specs.Syntax.{Row, Flat}
use Rattle.ten_form.specs.vl_design.specs.Width.{names_of}
use Rattle.ten_form.specs.vl_design.specs.Sound.{IsSignal}
use Rattle.ten_form.specs.vl_design.specs.State.{State, Update, sample}
use Rattle.ten_form.specs.vl_design.specs.Value.{value_of}
use Rattle.ten_form.specs.vl_runs.specs.Computed.{computed_at}
use Rattle.cell_emit.specs.cell_form.specs.declared.cell.Write.{Write}
use Rattle.cell_emit.specs.cell_form.specs.Data.{ListData, BankData}
use Rattle.cell_emit.specs.cell_form.specs.Sound.{Shape, shape_of}
use Rattle.cell_emit.specs.Slots.{held, AreSound}
use Rattle.cell_emit.specs.Envs.{Env, Stands}
use Rattle.cell_emit.specs.Pendings.{PendingSlots, ArePending}
use Rattle.ten_form.specs.Banks.{IsFor, HoldsSignals}
use Rattle.ten_form.specs.Registers.{answer_register, value_register, work_register, update_register, mask_register}
use Rattle.ten_form.specs.Nets.{HoldsNoOthers}
use Rattle.cell_waves.specs.Begins.{IsPendingRead, SettlesSignals}
use Rattle.cell_waves.specs.Lasts.{last_write, IsRegister}
use Rattle.cell_waves.specs.Copies.{changed, marked_one, marked_change, each_one, wanted}

-- behind a segment each entry that changed is written to its register, but what is pending only of signals that are marked; at the end of a wave each variable's value is committed too;
-- registers behind those of signals may be written as well
pub record Ends (rows : List Row) (commits : Bool) (marks : List Bool) (at0 at1 : Env) (p0 p1 : PendingSlots) (none : ℕ) (sets : List Write) : Type 0 where
  pub registers : AllByRecursion IsRegister sets
  pub works : (k : ℕ) → k < length rows → last_write sets (work_register k) ≡ wanted rows 4 (changed at0.slots at1.slots) at1.slots none k
  pub updates : (k : ℕ) → k < length rows → last_write sets (update_register k) ≡ wanted rows 5 (marked_change marks p0.update p1.update) p1.update none k
  pub masks : (k : ℕ) → k < length rows → last_write sets (mask_register k) ≡ wanted rows 6 (marked_change marks p0.mask p1.mask) p1.mask none k
  pub values : (k : ℕ) → k < length rows → last_write sets (value_register k) ≡ (if commits then wanted rows 3 each_one at1.slots none k else None)
  pub answer : last_write sets answer_register ≡ None

-- a segment leads from a state that a bank holds to another, and slots hold what they differ in
pub record Leads (d : Flat) (b : BankData) (l : ListData) (s t : State) (committed : List (List ℕ)) (marks : List Bool) (at0 at1 : Env) (p0 p1 : PendingSlots)
    (none : ℕ) : Type 0 where
  pub shape : Shape
  pub sound : AreSound shape l
  pub bank : IsFor d 0 (shape_of b)
  pub before : HoldsSignals d b s committed
  pub first : at0.first ≡ 0
  pub first_behind : at1.first ≡ 0
  pub stands : Stands (names_of d) b l at0 (sample s)
  pub stands_behind : Stands (names_of d) b l at1 (sample t)
  pub read : IsPendingRead d b l p0
  pub pending : ArePending (names_of d) l p1
  pub pends : SettlesSignals d b l p1 t.later
  pub zero : held b l none ≡ 0
  -- no update is pending of a signal that isn't marked
  pub none_before : (k : ℕ) → IsSignal (names_of d) k → marked_one marks k ≡ false → All (λ (u : Update). (u.signal == k) ≡ false) s.later
  pub none_behind : (k : ℕ) → IsSignal (names_of d) k → marked_one marks k ≡ false → All (λ (u : Update). (u.signal == k) ≡ false) t.later
  -- loop variables and clocks stay 0
  pub others : HoldsNoOthers d s committed
  pub others_behind : HoldsNoOthers d t committed
  pub answer : t.answer ≡ s.answer
  pub few : t.ticks < 2 ^ 32

-- a state is another one but for the values of computed signals, and for memories
pub record IsLike (d : Flat) (s t : State) : Type 0 where
  pub values : (k : ℕ) → IsSignal (names_of d) k → computed_at d.rows k ≡ false → value_of t.values k ≡ value_of s.values k
  pub later : t.later ≡ s.later
  pub answer : t.answer ≡ s.answer
  pub ticks : t.ticks ≡ s.ticks
