-- A word of a memory by its address (IEEE 1364-2005, clause 5.2.2).
use Rattle.std.specs.Prelude.{ℕ, ◌-◌, nat_lt, ℤ, pos, int_lt, unsigned_abs, Bool, not, ◌&&◌, List, [], slice_get, slice_index_or, Option, Some, None, if◌then◌else◌}
use Rattle.vl_design.specs.Syntax.{Row}
use Rattle.cell_emit.specs.cell_form.specs.Data.{BankData}
use Rattle.cell_emit.specs.cell_form.specs.Values.{word_at}

abbrev pub lowest_of : Option Row → ℤ
lowest_of None = pos 0
lowest_of (Some r) = r.lowest

-- the lowest address of a memory
abbrev pub lowest_in : List Row → ℕ → ℤ
lowest_in rows m = lowest_of (slice_get rows m)

abbrev pub row_words : Option Row → ℕ
row_words None = 0
row_words (Some r) = r.words

-- how many words a memory has
abbrev pub words_in : List Row → ℕ → ℕ
words_in rows m = row_words (slice_get rows m)

-- the word of an entry's memory by its number; 0 where there is none
abbrev pub word_read : BankData → Option ℕ → ℤ → ℕ
word_read b None z = 0
word_read b (Some m) z = word_at (slice_index_or b.mems m []) z

-- whether an address, and how far it is behind the lowest one, both of so many bits that they tell, name one of so many words: one
-- that is never negative names those from address 0 on
abbrev pub found_in : Bool → ℤ → ℕ → ℕ → ℕ → Bool
found_in signed lowest words address far = if not signed && int_lt lowest (pos 0) then nat_lt address (words - unsigned_abs lowest) else nat_lt far words
