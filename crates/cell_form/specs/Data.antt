-- Cells, banks and states as plain data.
use Rattle.std.specs.Prelude.{ℕ, ℤ, List, Option}
use Rattle.cell_form.specs.declared.cell.CellOp.{CellOp}
use Rattle.cell_form.specs.declared.cell.Write.{Write}
use Rattle.cell_form.specs.declared.table.Trap.{Trap}

-- a cell: what it does, the slots of its operands, its width, and the constant of its index or its lowest address
pub record CellData : Type 0 where
  pub op : CellOp
  pub args : List ℕ
  pub width : ℕ
  pub low : ℤ

-- the slot of the first cell, the cells, and the writes behind them
pub record ListData : Type 0 where
  pub first : ℕ
  pub cells : List CellData
  pub sets : List Write

-- what each register, each word of each memory, and each slot holds
pub record BankData : Type 0 where
  pub regs : List ℕ
  pub mems : List (List ℕ)
  pub slots : List ℕ

pub record StateData : Type 0 where
  pub cells : ListData
  pub trap : Option Trap
  pub nexts : List ℕ

-- the number of the state register, and the states
pub record TableData : Type 0 where
  pub state : ℕ
  pub states : List StateData
