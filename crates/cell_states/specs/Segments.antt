-- That cells do the statements of a segment (IEEE 1364-2005, clauses 9.2 and 11.3; own).
use Rattle.std.specs.Prelude.{◌≡◌, ℕ, ◌+◌, ◌<◌, ◌≤◌, ◌^◌, Bool, true, false, List, ◌++◌, length, Option, Some, None, ⊤}
use Rattle.vl_design.specs.vl_base.specs.declared.files.File.{File}
use Rattle.vl_design.specs.Functions.{scope_of}
use Rattle.vl_design.specs.Sound.{IsMemory}
use Rattle.vl_design.specs.State.{State, sample}
use Rattle.vl_design.specs.Syntax.{Stm, Flat}
use Rattle.vl_design.specs.Width.{names_of}
use Rattle.cell_emit.specs.cell_form.specs.Data.{ListData, BankData}
use Rattle.cell_emit.specs.cell_form.specs.Sound.{Shape}
use Rattle.cell_emit.specs.Slots.{held, AreSound, Longer, Grows}
use Rattle.cell_emit.specs.Envs.{Env, entry, IsSlot, Fits, HasMemories, Stands}
use Rattle.cell_emit.specs.Paths.{Keeps}
use Rattle.cell_emit.specs.Pendings.{PendingSlots, memories_of, ArePending, Pends}
use Rattle.cell_waves.specs.Rises.{Rises}
use Rattle.ten_form.specs.sub_nodes.specs.Nodes.{Segment}
use Rattle.ten_form.specs.sub_nodes.specs.Cycles.{execs, segment_done}
use Rattle.ten_form.specs.Stores.{all_stored}
use Rattle.cell_states.specs.Cells.{stms_count}

-- cells do statements one after another: what is read, and what is pending
pub record DoesAll (d : Flat) (as' : List Stm) (at at' : Env) (p p' : PendingSlots) (old new : ListData) : Type 0 where
  pub longer : Longer (HasMemories (names_of d) at) (stms_count d as') old new
  pub fits : Fits (names_of d) new at'
  pub keeps : Keeps (names_of d) at at'
  pub pending : ArePending (names_of d) new p'
  pub many : length p'.update ≡ length p.update
  -- a site more for each word that a nonblocking assignment names, in order
  pub sites : memories_of p'.sites ≡ memories_of p.sites ++ all_stored as'
  pub alive : (files : List File) (t : State) → t.finished ≡ false → (execs (scope_of d files) as' t).finished ≡ false
  pub does : (files : List File) (z : Shape) (b : BankData) (t : State) → AreSound z old → t.finished ≡ false → Stands (names_of d) b old at (sample t) →
      Stands (names_of d) b new at' (sample (execs (scope_of d files) as' t))
  pub later : (files : List File) (z : Shape) (b : BankData) (t : State) → AreSound z old → t.finished ≡ false → Stands (names_of d) b old at (sample t) → Pends (names_of d) b old p t.later →
      Pends (names_of d) b new p' (execs (scope_of d files) as' t).later

-- the clock rises, where it does, and then there is a slot of the new number of ticks; else nothing is done
abbrev pub RisesWhere : Bool → Env → Env → ListData → ListData → Option ℕ → Type 0
RisesWhere true at at' old new (Some r) = Rises at at' old new r
RisesWhere true at at' old new None = ⊥
RisesWhere false at at' old new r = (at' ≡ at) × (new ≡ old) × (r ≡ None)

-- the slot of the new number of ticks, where the clock rises
abbrev pub HoldsTicks : Bool → BankData → ListData → Option ℕ → ℕ → Type 0
HoldsTicks true b l (Some r) n = held b l r ≡ n
HoldsTicks true b l None n = ⊥
HoldsTicks false b l r n = r ≡ None

-- there is a slot of 32 bits, if any
abbrev pub IsTicks : ListData → Option ℕ → Type 0
IsTicks l None = ⊤
IsTicks l (Some r) = IsSlot l r 32

-- cells do a segment: first the clock rises, where it does
pub record DoesSegment (d : Flat) (g : Segment) (at at' : Env) (p p' : PendingSlots) (old new : ListData) (ticks : Option ℕ) : Type 0 where
  pub grows : Grows old new
  pub few : length new.cells ≤ length old.cells + (4 + stms_count d g.statements)
  pub sound : (z : Shape) → HasMemories (names_of d) at z → AreSound z old → AreSound z new
  pub first : at'.first ≡ at.first
  pub here : at'.here ≡ at.here
  pub answer : at'.answer ≡ at.answer
  pub fits : Fits (names_of d) new at'
  pub memories : (m : ℕ) → IsMemory (names_of d) m → entry at' m ≡ entry at m
  pub pending : ArePending (names_of d) new p'
  pub sites : memories_of p'.sites ≡ memories_of p.sites ++ all_stored g.statements
  pub slot : IsTicks new ticks
  pub alive : (files : List File) (t : State) → t.finished ≡ false → (segment_done (scope_of d files) g t).finished ≡ false
  pub stands : (files : List File) (z : Shape) (b : BankData) (t : State) → AreSound z old → t.finished ≡ false → (g.rises ≡ true → t.ticks + 1 < 2 ^ 32) → Stands (names_of d) b old at (sample t) →
      Stands (names_of d) b new at' (sample (segment_done (scope_of d files) g t))
  pub later : (files : List File) (z : Shape) (b : BankData) (t : State) → AreSound z old → t.finished ≡ false → (g.rises ≡ true → t.ticks + 1 < 2 ^ 32) → Stands (names_of d) b old at (sample t) → Pends (names_of d) b old p t.later →
      Pends (names_of d) b new p' (segment_done (scope_of d files) g t).later
  pub counted : (z : Shape) (b : BankData) (t : State) → AreSound z old → (g.rises ≡ true → t.ticks + 1 < 2 ^ 32) → Stands (names_of d) b old at (sample t) → HoldsTicks g.rises b new ticks (t.ticks + 1)
