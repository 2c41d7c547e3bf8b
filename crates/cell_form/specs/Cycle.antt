-- One cycle of a list of cells.
use Rattle.std.specs.Prelude.{ℕ, ◌+◌, ◌-◌, ◌==◌, if◌then◌else◌, List, [], ◌∷◌, ◌++◌, map, take, drop, length, slice_index, slice_index_or, slice_set, bit_and, bit_xor}
use Rattle.cell_form.specs.declared.cell.Write.{Write}
use Rattle.cell_form.specs.declared.cell.Write.TheVariants as w
use Rattle.cell_form.specs.Data.{CellData, ListData, BankData}
use Rattle.cell_form.specs.Values.{Slot, slot_at, slots_of}

-- a word with the bits that are set in a mask replaced by those of a new one
abbrev pub masked : ℕ → ℕ → ℕ → ℕ
masked old new mask = bit_xor old (bit_and (bit_xor old new) mask)

-- a memory with a word written under a mask; nothing where there is no such word
abbrev pub with_word : List ℕ → ℕ → ℕ → ℕ → List ℕ
with_word words k new mask = slice_set words k (masked (slice_index words k) new mask)

-- one write, where slots have these values
abbrev pub wrote : (ℕ → ℕ) → Write → BankData → BankData
wrote value (w.Reg r s) b = record b { regs = slice_set b.regs r (value s) }
wrote value (w.Mem m enable word new mask) b =
    if value enable == 0 then b
    else record b { mems = slice_set b.mems m (with_word (slice_index_or b.mems m []) (value word) (value new) (value mask)) }

-- one write after the other, each from these values
abbrev pub written : (ℕ → ℕ) → List Write → BankData → BankData
written value [] b = b
written value (x ∷ xs) b = written value xs (wrote value x b)

-- a list with others in place of those from a number on
abbrev pub put_at : ℕ → List ℕ → List ℕ → List ℕ
put_at k values slots = take k slots ++ (values ++ drop (k + length values) slots)

-- the values of slots
abbrev pub values_of : List Slot → List ℕ
values_of slots = map (λ x. x.value) slots

-- each cell's slot has its value
abbrev pub filled : ℕ → List CellData → BankData → BankData
filled first cells b = record b { slots = put_at first (values_of (slots_of first b.regs b.mems cells)) b.slots }

-- the value of a slot by its number, where the first one has the number `first`
abbrev pub value_at : ℕ → List Slot → ℕ → ℕ
value_at first slots s = (slot_at slots (s - first)).value

-- one cycle: each cell's slot gets its operation over registers, memories and earlier slots, then the writes are done
-- from these slots
abbrev pub cycled : ListData → BankData → BankData
cycled l b = written (value_at l.first (slots_of l.first b.regs b.mems l.cells)) l.sets (filled l.first l.cells b)
