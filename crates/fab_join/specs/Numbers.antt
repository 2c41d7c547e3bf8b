-- Cells, writes, traps, states and ports under other numbers for registers, memories and slots (own).
use Rattle.std.specs.Prelude.{ℕ, ◌+◌, ◌-◌, Bool, if◌then◌else◌, map}
use Rattle.std.specs.Option.{option_map}
use Rattle.trap_runtime.specs.cell_form.specs.declared.bank.Port.{Port}
use Rattle.trap_runtime.specs.cell_form.specs.declared.cell.CellOp.{CellOp}
use Rattle.trap_runtime.specs.cell_form.specs.declared.cell.CellOp.TheVariants as o
use Rattle.trap_runtime.specs.cell_form.specs.declared.cell.Write.{Write}
use Rattle.trap_runtime.specs.cell_form.specs.declared.cell.Write.TheVariants as w
use Rattle.trap_runtime.specs.cell_form.specs.declared.table.Trap.{Trap}
use Rattle.trap_runtime.specs.cell_form.specs.declared.table.TrapCall.{TrapCall}
use Rattle.trap_runtime.specs.cell_form.specs.declared.table.TrapCall.TheVariants as call
use Rattle.trap_runtime.specs.cell_form.specs.Data.{CellData, ListData, StateData, TableData}
use Rattle.trap_runtime.specs.cell_form.specs.Sound.{Shape}

-- the new number of each register, of each memory, and of each slot
pub record Numbering : Type 0 where
  pub reg : ℕ → ℕ
  pub mem : ℕ → ℕ
  pub slot : ℕ → ℕ

-- numbers behind so many registers, memories and slots
abbrev pub behind : Shape → Numbering
behind a = record { reg = λ n. a.regs + n; mem = λ n. a.mems + n; slot = λ n. a.slots + n }

-- such numbers, counted from the first one
abbrev pub from_first : Shape → Numbering
from_first a = record { reg = λ n. n - a.regs; mem = λ n. n - a.mems; slot = λ n. n - a.slots }

abbrev pub numbered_op : Numbering → CellOp → CellOp
numbered_op n (o.Reg r) = o.Reg (n.reg r)
numbered_op n (o.MemRead m signed) = o.MemRead (n.mem m) signed
numbered_op n op = op

abbrev pub numbered_cell : Numbering → CellData → CellData
numbered_cell n c = record { op = numbered_op n c.op; args = map n.slot c.args; width = c.width; low = c.low }

abbrev pub numbered_write : Numbering → Write → Write
numbered_write n (w.Reg r s) = w.Reg (n.reg r) (n.slot s)
numbered_write n (w.Mem m enable word new mask) = w.Mem (n.mem m) (n.slot enable) (n.slot word) (n.slot new) (n.slot mask)

abbrev pub numbered_list : Numbering → ListData → ListData
numbered_list n l = record { first = n.slot l.first; cells = map (numbered_cell n) l.cells; sets = map (numbered_write n) l.sets }

-- the target of a call: a memory where it reads one from a file, else a register
abbrev pub numbered_target : Numbering → TrapCall → ℕ → ℕ
numbered_target n (call.ReadHex name width first last) target = n.mem target
numbered_target n c target = n.reg target

abbrev pub numbered_trap : Numbering → Trap → Trap
numbered_trap n t = record {
  call = t.call;
  args = map n.slot t.args;
  answer = n.reg t.answer;
  target = option_map (numbered_target n t.call) t.target;
}

abbrev pub numbered_state : Numbering → StateData → StateData
numbered_state n s = record { cells = numbered_list n s.cells; trap = option_map (numbered_trap n) s.trap; nexts = s.nexts }

abbrev pub numbered_table : Numbering → TableData → TableData
numbered_table n t = record { state = n.reg t.state; states = map (numbered_state n) t.states }

-- the register of a variable, or the memory, that a port names
abbrev pub numbered_place : Numbering → Bool → ℕ → ℕ
numbered_place n mem k = if mem then n.mem k else n.reg k

abbrev pub numbered_port : Numbering → Port → Port
numbered_port n p = record p { value = numbered_place n p.mem p.value; work = numbered_place n p.mem p.work }
