-- One cycle of a table of states.
use Rattle.std.specs.Prelude.{slice_get, slice_index, Option, Some, None}
use Rattle.cell_form.specs.Data.{BankData, StateData, TableData}
use Rattle.cell_form.specs.Cycle.{cycled}

-- the state that the state register names
abbrev pub present : TableData → BankData → Option StateData
present t b = slice_get t.states (slice_index b.regs t.state)

abbrev pub state_cycled : Option StateData → BankData → BankData
state_cycled None b = b
state_cycled (Some s) b = cycled s.cells b

-- one cycle of a table is one cycle of the cells of the state that the state register names
abbrev pub table_cycled : TableData → BankData → BankData
table_cycled t b = state_cycled (present t b) b
