-- The update in cells (IEEE 1364-2005, clause 11.4; own).
use Rattle.std.specs.Prelude.{◌≡◌, ℕ, ◌≤◌, ◌<◌, ◌%◌, ◌^◌, ◌*◌, ◌==◌, ◌+◌, ◌⊎◌, Bool, true, false, List, [], length, slice_get, slice_index, All, Option, Some, None}
use Rattle.std.specs.List.{AllByRecursion}
use Rattle.ten_form.specs.vl_design.specs.Syntax.{Row, Flat}
use Rattle.ten_form.specs.vl_design.specs.Width.{names_of, signal_form}
use Rattle.ten_form.specs.vl_design.specs.Sound.{HasValue, IsWidth, IsSignal}
use Rattle.ten_form.specs.vl_design.specs.Laws.{IsFine}
use Rattle.ten_form.specs.vl_design.specs.State.{State, Update, all_updated}
use Rattle.ten_form.specs.vl_design.specs.Value.{value_of}
use Rattle.ten_form.specs.vl_runs.specs.Computed.{is_computed, computed_at}
use Rattle.cell_emit.specs.cell_form.specs.declared.cell.Write.{Write}
use Rattle.cell_emit.specs.cell_form.specs.Cycle.{masked, written}
use Rattle.cell_emit.specs.cell_form.specs.Data.{ListData, BankData}
use Rattle.cell_emit.specs.cell_form.specs.Sound.{Shape, IsWrite, shape_of}
use Rattle.cell_emit.specs.Slots.{held, width_at, AreSound, Grows, Longer}
use Rattle.cell_emit.specs.Envs.{IsSlot}
use Rattle.cell_trim.specs.Widths.{IsWithin}
use Rattle.ten_form.specs.Banks.{IsFor, HoldsSignals}
use Rattle.ten_form.specs.Nets.{HoldsNoOthers}
use Rattle.ten_form.specs.Registers.{register_count, work_register, update_register, mask_register}
use Rattle.cell_waves.specs.Copies.{HasSignals, is_written, count_to}
use Rattle.cell_waves.specs.Lasts.{last_write, IsRegister}

-- the signals of a state behind the update of another: each variable has the bits of its pending updates, and nothing is pending
pub record IsUpdated (d : Flat) (s t : State) : Type 0 where
  pub values : (k : ℕ) → IsSignal (names_of d) k → computed_at d.rows k ≡ false → value_of t.values k ≡ value_of (all_updated d.rows s.values s.later) k
  pub later : t.later ≡ []
  pub answer : t.answer ≡ s.answer
  pub ticks : t.ticks ≡ s.ticks

-- no update is pending of a signal that is none of these
abbrev pub ArePendingOf : Flat → (ℕ → Bool) → List Update → Type 0
ArePendingOf d delayed later = (k : ℕ) → IsSignal (names_of d) k → delayed k ≡ false → All (λ u. (u.signal == k) ≡ false) later

-- other writes, of any kind, leave each register of signals, of the answer and of the ticks the same
abbrev pub SameWrites : Flat → List Write → List Write → Type 0
SameWrites d xs ys = (r : ℕ) → 1 ≤ r → r < register_count (length d.rows) → last_write ys r ≡ last_write xs r

-- writes leave those registers as they were
abbrev pub NoWrites : Flat → List Write → Type 0
NoWrites d xs = SameWrites d [] xs

-- cells and writes behind others make the update of signals, six cells for each that is marked: whatever cells come too, and whatever
-- writes of the next state, of registers behind those of signals and of memories, the registers of signals then hold the updated state,
-- committed
pub record Applies (d : Flat) (delayed : ℕ → Bool) (here : ℕ) (old new : ListData) (before after : List Write) : Type 0 where
  pub longer : Longer (HasSignals (length d.rows)) (6 * count_to delayed (length d.rows)) old new
  pub sound : (z : Shape) → IsFor d 0 z → AllByRecursion (IsWrite z new.first (length new.cells)) before →
      AllByRecursion (IsWrite z new.first (length new.cells)) after
  pub registers : AllByRecursion IsRegister before → AllByRecursion IsRegister after
  -- registers are set from `here` and from slots that are as wide as their signals
  pub within : (most : ℕ → ℕ) (l : ListData) →
      ((copy k s : ℕ) → 3 ≤ copy → copy ≤ 6 → is_written copy (slice_get d.rows k) ≡ true → delayed k ≡ true → (s ≡ here) ⊎ IsSlot new s (signal_form d.rows k).width → width_at l s ≤ most (4 * k + copy)) →
      AllByRecursion (IsWithin most l) before → AllByRecursion (IsWithin most l) after
  -- no register behind those of signals is written
  pub others : (r : ℕ) → register_count (length d.rows) ≤ r → last_write after r ≡ last_write before r
  pub holds : (b : BankData) (s t : State) (committed : List (List ℕ)) (l : ListData) (sets : List Write) → AreSound (shape_of b) old →
      IsFor d 0 (shape_of b) → NoWrites d before → HoldsSignals d b s committed → HoldsNoOthers d s committed → IsFine d.rows s.values → Grows new l → SameWrites d after sets →
      IsUpdated d s t → ArePendingOf d delayed s.later → committed ≡ s.values → HoldsSignals d (written (held b l) sets b) t t.values

-- ---- one signal

-- an entry has a signal's value behind the update: the bits of its pending updates in its work copy
abbrev pub HoldsUpdate : ℕ → ℕ → ListData → Option ℕ → Type 0
HoldsUpdate w k l None = ⊥
HoldsUpdate w k l (Some r) =
    IsSlot l r w × ((z : Shape) (b : BankData) → AreSound z l → held b l r
    ≡ masked (slice_index b.regs (work_register k) % 2 ^ w) (slice_index b.regs (update_register k) % 2 ^ w) (slice_index b.regs (mask_register k) % 2 ^ w))

abbrev pub HasUpdate : Row → ℕ → ListData → Option ℕ → Type 0
HasUpdate r k l e = HasValue r.kind → is_computed r.kind ≡ false → IsWidth r.width → HoldsUpdate r.width k l e

-- so it is where updates of the signal may be pending; else there is no entry
pub record HasUpdateIf (delayed : Bool) (r : Row) (k : ℕ) (l : ListData) (e : Option ℕ) : Type 0 where
  pub there : delayed ≡ true → HasUpdate r k l e
  pub none : delayed ≡ false → e ≡ None

-- a bank has the registers of a signal
abbrev pub HasOwn : ℕ → Shape → Type 0
HasOwn k z = mask_register k < z.regs
