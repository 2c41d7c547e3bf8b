-- The value of a cell, and those of a list (IEEE 1364-2005, clause 5).
use Rattle.std.specs.Prelude.{ℕ, ◌-◌, ◌%◌, ◌^◌, ◌==◌, ℤ, pos, negsuc, ◌+ℤ◌, ◌-ℤ◌, Bool, if◌then◌else◌, List, [], ◌∷◌, ◌++◌, map, slice_index, slice_index_or}
use Rattle.vl_base.specs.Value.{reading, resized, unary_value, binary_value}
use Rattle.vl_base.specs.Selects.{picked, placed, appended}
use Rattle.cell_form.specs.declared.cell.CellOp.{CellOp}
use Rattle.cell_form.specs.declared.cell.CellOp.TheVariants as o
use Rattle.cell_form.specs.declared.cell.Index.{Index}
use Rattle.cell_form.specs.Data.{CellData}

-- what a slot holds: a value, and the width of its cell
pub record Slot : Type 0 where
  pub value : ℕ
  pub width : ℕ

abbrev pub slot_at : List Slot → ℕ → Slot
slot_at slots k = slice_index_or slots k (record { value = 0; width = 0 })

-- the whole number that a slot stands for
abbrev pub whole : Bool → Slot → ℤ
whole signed x = reading signed x.width x.value

-- the lowest bit that an index names
abbrev pub lowest_bit : Index → ℤ → Slot → ℤ
lowest_bit from low i = if from.taken then low -ℤ whole from.signed i else low +ℤ whole from.signed i

-- a word by its number, 0 where there is none
abbrev pub word_at : List ℕ → ℤ → ℕ
word_at words (pos k) = slice_index words k
word_at words (negsuc k) = 0

-- the words that an operation finds in registers and memories: that of a register, or those of a memory
abbrev pub found : CellOp → List ℕ → List (List ℕ) → List ℕ
found (o.Reg r) regs mems = slice_index regs r ∷ []
found (o.MemRead m signed) regs mems = slice_index_or mems m []
found op regs mems = []

-- what an operation of w bits with such a constant makes of these words and its operands
abbrev pub applied : CellOp → ℕ → ℤ → List ℕ → List Slot → ℕ
applied (o.Const n) w low words xs = n % 2 ^ w
applied (o.Reg r) w low words xs = slice_index words 0 % 2 ^ w
applied (o.Un op) w low words xs = unary_value op (slot_at xs 0).width (slot_at xs 0).value
applied (o.Bin op signed) w low words xs = binary_value op signed (slot_at xs 0).width (slot_at xs 0).value (slot_at xs 1).value
applied o.Mux w low words xs = if (slot_at xs 0).value == 0 then (slot_at xs 2).value else (slot_at xs 1).value
applied (o.Pick from) w low words xs = picked (slot_at xs 0).width (slot_at xs 0).value (lowest_bit from low (slot_at xs 1)) w
applied (o.PlaceIn from) w low words xs =
    placed (slot_at xs 0).width (slot_at xs 0).value (lowest_bit from low (slot_at xs 1)) (slot_at xs 2).width (slot_at xs 2).value
applied o.Append w low words xs = appended (slot_at xs 0).value (slot_at xs 1).width (slot_at xs 1).value
applied (o.Resize signed) w low words xs = resized signed (slot_at xs 0).width w (slot_at xs 0).value
applied (o.MemRead m signed) w low words xs = word_at words (whole signed (slot_at xs 0) -ℤ low) % 2 ^ w

-- the operands of a cell among the slots of earlier cells, of which the first has the number `first`
abbrev pub operands : ℕ → List Slot → List ℕ → List Slot
operands first earlier args = map (λ a. slot_at earlier (a - first)) args

-- a cell's slot: its operation over registers, memories and the slots of earlier cells
abbrev pub cell_slot : ℕ → List ℕ → List (List ℕ) → List Slot → CellData → Slot
cell_slot first regs mems earlier c = record {
  value = applied c.op c.width c.low (found c.op regs mems) (operands first earlier c.args);
  width = c.width;
}

-- earlier slots, and those of cells behind them
abbrev pub slots_behind : ℕ → List ℕ → List (List ℕ) → List Slot → List CellData → List Slot
slots_behind first regs mems earlier [] = earlier
slots_behind first regs mems earlier (c ∷ cs) = slots_behind first regs mems (earlier ++ cell_slot first regs mems earlier c ∷ []) cs

-- the slots of a list's cells over registers and memories
abbrev pub slots_of : ℕ → List ℕ → List (List ℕ) → List CellData → List Slot
slots_of first regs mems cells = slots_behind first regs mems [] cells
