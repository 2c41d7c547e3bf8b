-- Selects and concatenations on values (IEEE 1364-2005, clauses 5.1.14 and 5.2.1). Bits are numbered from 0, the lowest.
use Rattle.std.specs.Prelude.{ℕ, suc, ◌+◌, ◌-◌, ◌*◌, ◌/◌, ◌%◌, ◌^◌, min, ℤ, pos, negsuc}

-- the bit of a number, 0 where there is none
abbrev pub bit_of : ℕ → ℤ → ℕ
bit_of v (pos i) = v / 2 ^ i % 2
bit_of v (negsuc i) = 0

-- `width` bits of a value of w bits, from the bit `low` on (clause 5.2.1); a bit that isn't there is 0 (own)
abbrev pub picked : ℕ → ℕ → ℤ → ℕ → ℕ
picked w v (pos low) width = v / 2 ^ min low w % 2 ^ width
picked w v (negsuc n) width = v * 2 ^ min (suc n) width % 2 ^ width

-- a number whose bits from `low` on, as many as `width`, are replaced by a part of that width
abbrev pub with_part : ℕ → ℕ → ℕ → ℕ → ℕ
with_part v low width part = v / 2 ^ (low + width) * 2 ^ (low + width) + part * 2 ^ low + v % 2 ^ low

-- a value of w bits with a part of `width` bits written to it from the bit `low` on; bits of the part that fall outside
-- the value have no effect (clause 5.2.1)
abbrev pub placed : ℕ → ℕ → ℤ → ℕ → ℕ → ℕ
placed w v (pos low) width part = with_part v (min low w) width part % 2 ^ w
placed w v (negsuc n) width part = let k = min (suc n) width in with_part v 0 (width - k) (part / 2 ^ k) % 2 ^ w

-- two values side by side, the lower one of w bits (clause 5.1.14)
abbrev pub appended : ℕ → ℕ → ℕ → ℕ
appended high w low = high * 2 ^ w + low
