-- What a state begins with, in slots (IEEE 1364-2005, clauses 6.1, 9.2.2 and 11.3; own).
use Rattle.std.specs.Prelude.{◌≡◌, ◌≤◌, ℕ, ◌+◌, ◌*◌, false, List, [], length, slice_index}
use Rattle.cell_emit.specs.vl_base.specs.declared.files.File.{File}
use Rattle.ten_form.specs.vl_design.specs.Syntax.{Flat}
use Rattle.ten_form.specs.vl_design.specs.Width.{names_of}
use Rattle.ten_form.specs.vl_design.specs.Sound.{IsSignal}
use Rattle.ten_form.specs.vl_design.specs.Laws.{IsFine}
use Rattle.ten_form.specs.vl_design.specs.State.{State, Update, all_updated, sample}
use Rattle.ten_form.specs.vl_design.specs.Value.{value_of}
use Rattle.cell_emit.specs.cell_form.specs.Data.{ListData, BankData}
use Rattle.cell_emit.specs.cell_form.specs.Sound.{Shape}
use Rattle.cell_emit.specs.Slots.{AreSound}
use Rattle.cell_emit.specs.Envs.{Env, held_or, Fits, HasMemories, Stands}
use Rattle.cell_emit.specs.vl_sites.specs.Others.{other_at}
use Rattle.cell_emit.specs.Entries.{read_count}
use Rattle.cell_waves.specs.Passes.{pass_count}
use Rattle.cell_emit.specs.Pendings.{PendingSlots, slot_of, settled, ArePending}
use Rattle.ten_form.specs.Registers.{update_register, mask_register}
use Rattle.ten_form.specs.Nets.{IsTidy, HoldsNoOthers}
use Rattle.ten_form.specs.Banks.{IsFor, HoldsSignals, HoldsState}

-- slots hold what the registers of pending updates hold, but for those of loop variables and clocks
pub record IsPendingRead (d : Flat) (b : BankData) (l : ListData) (p : PendingSlots) : Type 0 where
  pub update : (k : ℕ) → IsSignal (names_of d) k → other_at d.rows k ≡ false → held_or b l (slot_of p.update k) ≡ slice_index b.regs (update_register k)
  pub mask : (k : ℕ) → IsSignal (names_of d) k → other_at d.rows k ≡ false → held_or b l (slot_of p.mask k) ≡ slice_index b.regs (mask_register k)

-- pending updates make of the values of signals what slots say
abbrev pub SettlesSignals : Flat → BankData → ListData → PendingSlots → List Update → Type 0
SettlesSignals d b l p later = (base : List (List ℕ)) (k : ℕ) → IsFine d.rows base → IsSignal (names_of d) k →
    value_of (all_updated d.rows base later) k ≡ settled b l p k (value_of base k)

-- at most how many cells a state begins with: each signal is read four times, but loop variables and clocks never, and four cells twice beside; and one
-- pass over processes
abbrev pub begin_count : Flat → List ℕ → ℕ
begin_count d order = 4 * read_count d.rows + 8 + pass_count d order

-- a state begins with these cells; the sites of memory words are for others to add
pub record Begins (d : Flat) (order : List ℕ) (old new : ListData) (at : Env) (p : PendingSlots) : Type 0 where
  pub first : at.first ≡ 0
  pub fits : Fits (names_of d) new at
  pub pending : ArePending (names_of d) new p
  pub many : length p.update ≡ length d.rows
  pub sites : p.sites ≡ []
  pub few : length new.cells ≤ length old.cells + begin_count d order
  -- the cells are well-formed on a bank for the design
  pub sound : (z : Shape) → IsFor d 0 z → AreSound z old → AreSound z new
  pub memories : (z : Shape) → IsFor d 0 z → HasMemories (names_of d) at z
  -- slots hold the state that the bank holds, and what is pending of signals
  pub stands : (files : List File) (z : Shape) (b : BankData) (s : State) (committed : List (List ℕ)) → AreSound z old → s.finished ≡ false →
      IsTidy d files order s committed → HoldsNoOthers d s committed → HoldsState d b s committed → Stands (names_of d) b new at (sample s)
  pub pends : (z : Shape) (b : BankData) (s : State) (committed : List (List ℕ)) → AreSound z old → HoldsNoOthers d s committed → HoldsSignals d b s committed →
      SettlesSignals d b new p s.later
  pub read : (z : Shape) (b : BankData) (s : State) (committed : List (List ℕ)) → AreSound z old → HoldsSignals d b s committed → IsPendingRead d b new p
