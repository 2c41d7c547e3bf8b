-- In which bits two values differ (IEEE 1364-2005, clause 9.5.1).
use Rattle.std.specs.Prelude.{ℕ, Option, Some, None, bit_and, bit_xor}

-- of all bits, or of those that are given
abbrev pub differing : Option ℕ → ℕ → ℕ → ℕ
differing None x y = bit_xor x y
differing (Some bits) x y = bit_and (bit_xor x y) bits

-- one cell says in which bits, and two more take the bits that are given
abbrev pub differing_count : Option ℕ → ℕ
differing_count None = 1
differing_count (Some bits) = 3
