-- The parts of a joined bank, each by its own numbers (own).
use Rattle.std.specs.Prelude.{ℕ, ◌<◌, List, [], slice_index, slice_index_or}
use Rattle.std.specs.List.{AllByRecursion}
use Rattle.trap_runtime.specs.cell_form.specs.declared.bank.Port.{Port}
use Rattle.trap_runtime.specs.cell_form.specs.Data.{BankData, TableData}
use Rattle.trap_runtime.specs.cell_form.specs.Sound.{Shape, IsList}
use Rattle.trap_runtime.specs.cell_form.specs.States.{table_cycled}

-- a part: its states, its ports, and what its registers, memories and slots hold
pub record PartData : Type 0 where
  pub table : TableData
  pub ports : List Port
  pub bank : BankData

-- a part that isn't there
abbrev pub no_part : PartData
no_part = record {
  table = record { state = 0; states = [] };
  ports = [];
  bank = record { regs = []; mems = []; slots = [] };
}

abbrev pub part_at : List PartData → ℕ → PartData
part_at parts k = slice_index_or parts k no_part

-- a part that holds something else
abbrev pub with_bank : PartData → BankData → PartData
with_bank p b = record { table = p.table; ports = p.ports; bank = b }

-- a part after one cycle of its own table on its own bank
abbrev pub stepped : PartData → PartData
stepped p = with_bank p (table_cycled p.table p.bank)

-- what the state register of a part holds
abbrev pub state_in : PartData → ℕ
state_in p = slice_index p.bank.regs p.table.state

-- a table that may run on banks of a shape: the state register is there, and the cells of each state may run
pub record IsTable (s : Shape) (t : TableData) : Type 0 where
  pub state : t.state < s.regs
  pub states : AllByRecursion (λ x. IsList s x.cells) t.states
