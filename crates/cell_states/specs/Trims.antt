-- States of the cells that are needed (own).
use Rattle.std.specs.Prelude.{◌≡◌, ℕ, ◌+◌, ◌≤◌, List, [], ◌∷◌, length, map, Some}
use Rattle.std.specs.List.{AllByRecursion}
use Rattle.vl_design.specs.Syntax.{Task, Flat}
use Rattle.cell_emit.specs.cell_form.specs.declared.cell.Write.{Write}
use Rattle.cell_emit.specs.cell_form.specs.declared.table.Trap.{Trap}
use Rattle.cell_emit.specs.cell_form.specs.Cycle.{written, value_at}
use Rattle.cell_emit.specs.cell_form.specs.Data.{ListData, BankData, StateData}
use Rattle.cell_emit.specs.cell_form.specs.Values.{slots_of}
use Rattle.cell_emit.specs.cell_form.specs.Sound.{Shape, IsWrite, IsList}
use Rattle.cell_emit.specs.Slots.{slot, IsIn, AreSound}
use Rattle.ten_form.specs.sub_nodes.specs.Nodes.{Segment, Go, Run}
use Rattle.ten_form.specs.Traps.{IsTrapOf}
use Rattle.ten_form.specs.States.{slots_in, Does, AsksFor}
use Rattle.cell_trim.specs.Widths.{IsWithin}

-- of these cells, with these writes and wanted slots, a list has what is needed
pub record IsTrimmed (l : ListData) (sets : List Write) (wanted : List ℕ) (first : ℕ) (new : ListData) (slots : List ℕ) : Type 0 where
  pub first_is : new.first ≡ first
  pub there : AllByRecursion (IsIn l) wanted → AllByRecursion (IsIn new) slots
  pub sound : (s : Shape) → AreSound s l → AllByRecursion (IsWrite s l.first (length l.cells)) sets → first + length new.cells ≤ s.slots → IsList s new
  pub widths : (most : ℕ → ℕ) → AllByRecursion (IsWithin most l) sets → AllByRecursion (IsWithin most new) new.sets
  pub values : (b : BankData) → map (slot b new) slots ≡ map (slot b l) wanted
  pub writes : (b c : BankData) → written (value_at first (slots_of first b.regs b.mems new.cells)) new.sets c ≡ written (value_at l.first (slots_of l.first b.regs b.mems l.cells)) sets c

-- the state of a segment that comes to a call, and that of the call's trap, behind which the state `to` is next
pub record Calls (d : Flat) (order : List ℕ) (n : ℕ) (g : Segment) (m : ℕ) (task : Task) (to : ℕ) (run wait : StateData) : Type 0 where
  pub does : Does d order n (Run g (Go m)) run
  pub trap : Trap
  pub asks : AsksFor d order n (Run g (Go m)) run.cells task trap.args
  pub no_cells : wait.cells.cells ≡ []
  pub no_writes : wait.cells.sets ≡ []
  pub is : wait.trap ≡ Some trap
  pub next : wait.nexts ≡ to ∷ []
  pub call : (slots : ℕ) → slots_in run.cells ≤ slots → IsTrapOf d task slots trap
