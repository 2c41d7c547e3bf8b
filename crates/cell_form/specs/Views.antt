-- The plain data of the program's cells, banks and states.
use Rattle.std.specs.Prelude.{map}
use Rattle.cell_form.specs.declared.bank.Bank.{Bank}
use Rattle.cell_form.specs.declared.cell.Cell.{Cell}
use Rattle.cell_form.specs.declared.cell.CellList.{CellList}
use Rattle.cell_form.specs.declared.table.State.{State}
use Rattle.cell_form.specs.declared.table.StateTable.{StateTable}
use Rattle.cell_form.specs.Data.{CellData, ListData, BankData, StateData, TableData}

abbrev pub cell_of : Cell → CellData
cell_of c = record { op = c.op; args = c.args.items; width = c.width; low = c.low }

abbrev pub list_of : CellList → ListData
list_of l = record { first = l.first; cells = map cell_of l.cells; sets = l.sets }

abbrev pub bank_of : Bank → BankData
bank_of b = record { regs = b.regs.items; mems = map (λ m. m.items) b.mems.items; slots = b.slots.items }

abbrev pub state_of : State → StateData
state_of s = record { cells = list_of s.cells; trap = s.trap; nexts = s.nexts }

abbrev pub table_of : StateTable → TableData
table_of t = record { state = t.state; states = map state_of t.states }
