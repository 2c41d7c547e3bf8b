-- What the cells of a system call compute (IEEE 1364-2005, clause 17).
use Rattle.std.specs.Prelude.{◌≡◌, ℕ, ◌+◌, List, [], ◌∷◌, map, length, ⊤}
use Rattle.vl_base.specs.declared.files.File.{File}
use Rattle.vl_design.specs.declared.design.SysCall.{SysCall}
use Rattle.vl_design.specs.Functions.{scope_of}
use Rattle.vl_design.specs.Plainly as plain
use Rattle.vl_design.specs.Seen as seen
use Rattle.vl_design.specs.Syntax.{Exp, Task, Flat}
use Rattle.vl_design.specs.Tasks.{descriptor_of}
use Rattle.vl_design.specs.Trees.{task_of}
use Rattle.vl_design.specs.Value.{Sample}
use Rattle.vl_design.specs.Width.{names_of}
use Rattle.cell_emit.specs.cell_form.specs.Data.{ListData, BankData}
use Rattle.cell_emit.specs.cell_form.specs.Sound.{Shape}
use Rattle.cell_emit.specs.Slots.{held, AreSound, Longer}
use Rattle.cell_emit.specs.Envs.{Env, IsSlot, HasMemories, Stands}
use Rattle.cell_expr.specs.Counts.{exp_count, body_cells}
use Rattle.cell_emit.specs.cell_form.specs.declared.table.Trap.{Trap}
use Rattle.ten_form.specs.Traps.{IsTrapOf}
use Rattle.cell_calls.specs.Counts.{asked_count}
use Rattle.ten_form.specs.Asked.{asked, asked_widths}

-- the call of an instance of this path
abbrev pub task_in : List ℕ → SysCall → Task
task_in path call = task_of path call.name (plain.args (seen.args_of call.args.items))

-- slots of a list, of these widths
abbrev pub AreSlots : ListData → List ℕ → List ℕ → Type 0
AreSlots l [] [] = ⊤
AreSlots l [] (w ∷ ws) = ⊥
AreSlots l (r ∷ rs) [] = ⊥
AreSlots l (r ∷ rs) (w ∷ ws) = IsSlot l r w × AreSlots l rs ws

-- so many slots are there up to the end of a list
abbrev pub slots_in : ListData → ℕ
slots_in l = l.first + length l.cells

-- with at most so many cells more, slots hold what the call is given
pub record Asks (d : Flat) (task : Task) (at : Env) (old new : ListData) (args : List ℕ) : Type 0 where
  pub longer : Longer (HasMemories (names_of d) at) (asked_count (body_cells d) task) old new
  pub slots : AreSlots new args (asked_widths (names_of d) task)
  pub values : (files : List File) (s : Shape) (b : BankData) (x : Sample) → AreSound s old → Stands (names_of d) b old at x →
      map (held b new) args ≡ asked (scope_of d files) x task

-- with more cells, a slot holds the descriptor of an open file, of 32 bits
pub record AsksFile (d : Flat) (fd : Exp) (at : Env) (old new : ListData) (r : ℕ) : Type 0 where
  pub longer : Longer (HasMemories (names_of d) at) (exp_count (body_cells d) fd + 1) old new
  pub slot : IsSlot new r 32
  pub value : (files : List File) (s : Shape) (b : BankData) (x : Sample) → AreSound s old → Stands (names_of d) b old at x →
      held b new r ≡ descriptor_of (scope_of d files) x fd

-- the trap is the call, and its slots hold what the call is given
pub record Traps (d : Flat) (task : Task) (at : Env) (old new : ListData) (t : Trap) : Type 0 where
  pub is : IsTrapOf d task (slots_in new) t
  pub asks : Asks d task at old new t.args
