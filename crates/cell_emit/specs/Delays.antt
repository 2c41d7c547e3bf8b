-- That cells make updates pending where a path is taken (IEEE 1364-2005, clause 9.2.2).
use Rattle.std.specs.Prelude.{◌≡◌, ℕ, ◌<◌, ◌==◌, if◌then◌else◌, false, List, [], ◌∷◌, ◌++◌, length}
use Rattle.vl_sites.specs.vl_design.specs.declared.design.Form.{Form}
use Rattle.vl_sites.specs.vl_design.specs.Syntax.{Items}
use Rattle.vl_sites.specs.vl_design.specs.Width.{Names, Scope, signal_form}
use Rattle.vl_sites.specs.vl_design.specs.Sound.{IsSignal, IsMemory}
use Rattle.vl_sites.specs.vl_design.specs.State.{State, Update, sample}
use Rattle.cell_form.specs.Data.{ListData, BankData}
use Rattle.cell_form.specs.Sound.{Shape}
use Rattle.cell_emit.specs.Slots.{held, width_at, AreSound, Longer, Nothing}
use Rattle.cell_emit.specs.Envs.{Env, HasOneWord, Stands}
use Rattle.cell_emit.specs.Paths.{on, Low, Constant, By, low_in}
use Rattle.cell_emit.specs.Cases.{Went}
use Rattle.cell_emit.specs.Pendings.{PendingSlots, ArePending, Pends}

-- a signal of so many bits that has an entry
pub record IsDelayable (names : Names) (l : ListData) (p : PendingSlots) (signal wide : ℕ) : Type 0 where
  pub one : HasOneWord names.rows
  pub pending : ArePending names l p
  pub is_signal : IsSignal names signal
  pub width : (signal_form names.rows signal).width ≡ wide
  pub there : signal < length p.update

-- behind those that are pending come these where the path is taken
abbrev pub with_later : ℕ → List Update → List Update → List Update
with_later off later us = if off == 0 then later ++ us else later

-- with at most n cells more, updates in order are pending too where the path is taken
pub record Delays (names : Names) (n : ℕ) (us : BankData → List Update) (off : ℕ) (p p' : PendingSlots) (old new : ListData) : Type 0 where
  pub longer : Longer Nothing n old new
  pub pending : ArePending names new p'
  pub many : length p'.update ≡ length p.update
  pub later : (s : Shape) (b : BankData) (later : List Update) → AreSound s old → Pends names b old p later → Pends names b new p' (with_later (held b old off) later (us b))

-- how many cells make an update from a bit on pending: an index that names it has more
abbrev pub delay_count : Low → ℕ
delay_count (Constant low) = 4
delay_count (By index signed from) = 6

-- a memory of words of so many bits
pub record IsStorable (names : Names) (l : ListData) (p : PendingSlots) (memory wide : ℕ) : Type 0 where
  pub pending : ArePending names l p
  pub is_memory : IsMemory names memory
  pub width : (signal_form names.rows memory).width ≡ wide

-- the update of a part in a slot to the word of a memory that a slot names, where another slot isn't 0
abbrev pub stored_in : BankData → ListData → ℕ → ℕ → ℕ → Low → ℕ → List Update
stored_in b l memory enable word low part =
    if held b l enable == 0 then [] else record { signal = memory; word = held b l word; low = low_in b l low; width = width_at l part; value = held b l part } ∷ []

-- what is pending behind cells that do what f does where the path is taken
pub record Leaves (names : Names) (f : State → State) (off : ℕ) (at : Env) (p p' : PendingSlots) (old new : ListData) : Type 0 where
  pub pending : ArePending names new p'
  pub many : length p'.update ≡ length p.update
  pub later : (s : Shape) (b : BankData) (t : State) → AreSound s old → t.finished ≡ false → Stands names b old at (sample t) → Pends names b old p t.later →
      Pends names b new p' (on (held b old off) (f t) t).later

-- the same of labelled items of a case, where the path before them is taken; behind them both what is read and what is pending
-- stands in slots
pub record LeavesItems (names : Names) (scope : Scope) (c : Form) (subject : ℕ) (items : Items) (before behind : ℕ) (at at' : Env) (p p' : PendingSlots) (old new : ListData) : Type 0 where
  pub pending : ArePending names new p'
  pub many : length p'.update ≡ length p.update
  pub went : (s : Shape) (b : BankData) (t : State) → AreSound s old → t.finished ≡ false → Stands names b old at (sample t) → Pends names b old p t.later →
      Went scope c (held b old subject) items (held b old before) (held b new behind) (λ u. Stands names b new at' (sample u) × Pends names b new p' u.later) t
