-- What a write sets.
use Rattle.std.specs.Prelude.{ℕ, Bool, false, not, ◌&&◌, ◌==◌, [], slice_index, slice_index_or}
use Rattle.cell_form.specs.declared.cell.Write.{Write}
use Rattle.cell_form.specs.declared.cell.Write.TheVariants as w
use Rattle.cell_form.specs.Data.{BankData}

-- it sets this register
abbrev pub sets_register : ℕ → Write → Bool
sets_register r (w.Reg k s) = k == r
sets_register r (w.Mem m enable word new mask) = false

-- it sets bits of this word of this memory, where slots have these values
abbrev pub sets_word : (ℕ → ℕ) → ℕ → ℕ → Write → Bool
sets_word value m k (w.Reg r s) = false
sets_word value m k (w.Mem n enable word new mask) = (n == m) && (not (value enable == 0) && (value word == k))

-- a word of a memory
abbrev pub word_of : BankData → ℕ → ℕ → ℕ
word_of b m k = slice_index (slice_index_or b.mems m []) k
