-- Display text (IEEE 1364-2005, clause 17.1).
use Rattle.std.specs.Prelude.{ℕ, zero, suc, ◌+◌, ◌-◌, ◌/◌, ◌%◌, ◌^◌, Bool, false, ◌&&◌, ◌||◌, if◌then◌else◌, ◌==◌, nat_le, List, [], ◌∷◌, ◌++◌, length, replicate, Option, Some, None}
use Rattle.std.specs.Fmt.{decimal, signed_decimal, digit_glyph}
use Rattle.vl_base.specs.Value.{reading}

-- how an item of a format shows its value
pub data Format : Type 0 where
  -- `%0d`: in decimal, in as few digits as serve
  LeastDecimal : Format
  -- `%d`: in decimal, at the right of the greatest value's width
  Decimal : Format
  -- `%h` and `%x`: in as many hexadecimal digits as the width has, or under 0 in as few as serve
  Hexadecimal : Format
  LeastHexadecimal : Format
  -- `%o`: likewise in octal
  Octal : Format
  LeastOctal : Format
  -- `%b`: likewise in binary
  Binary : Format
  LeastBinary : Format
  -- `%s` and `%0s`: the bytes from the top, without leading zero bytes
  Characters : Format
  -- `%c`: the lowest byte
  Character : Format

-- the lowest n digits of a number in a base, the highest first
abbrev pub places : ℕ → ℕ → ℕ → List ℕ
places base zero v = []
places base (suc n) v = places base n (v / base) ++ v % base ∷ []

-- digits as text, in lower case
abbrev pub glyphs : List ℕ → List ℕ
glyphs [] = []
glyphs (d ∷ ds) = digit_glyph false d ∷ glyphs ds

-- digits without leading zeros; the last digit stays
abbrev pub least : List ℕ → List ℕ
least [] = []
least (d ∷ []) = d ∷ []
least (d ∷ e ∷ ds) = if d == 0 then least (e ∷ ds) else d ∷ e ∷ ds

-- bytes without leading zeros
abbrev pub without_zeros : List ℕ → List ℕ
without_zeros [] = []
without_zeros (b ∷ bs) = if b == 0 then without_zeros bs else b ∷ bs

-- how many digits of k bits each a value of w bits has
abbrev pub places_of : ℕ → ℕ → ℕ
places_of k w = (w + (k - 1)) / k

-- the digits of k bits each of a value of w bits
abbrev pub digits_by : ℕ → ℕ → ℕ → List ℕ
digits_by k w v = places (2 ^ k) (places_of k w) v

-- text at the right of a field, with spaces before it
abbrev pub right_in : ℕ → List ℕ → List ℕ
right_in n text = replicate (n - length text) 32 ++ text

-- how many characters a value of w bits has at most in decimal, with the sign where it is signed
abbrev pub decimal_width : Bool → ℕ → ℕ
decimal_width signed w = if signed then length (decimal (2 ^ (w - 1))) + 1 else length (decimal (2 ^ w - 1))

-- what an item shows of a value of w bits
abbrev pub item_text : Format → Bool → ℕ → ℕ → List ℕ
item_text LeastDecimal signed w v = signed_decimal (reading signed w v)
item_text Decimal signed w v = right_in (decimal_width signed w) (signed_decimal (reading signed w v))
item_text Hexadecimal signed w v = glyphs (digits_by 4 w v)
item_text LeastHexadecimal signed w v = glyphs (least (digits_by 4 w v))
item_text Octal signed w v = glyphs (digits_by 3 w v)
item_text LeastOctal signed w v = glyphs (least (digits_by 3 w v))
item_text Binary signed w v = glyphs (digits_by 1 w v)
item_text LeastBinary signed w v = glyphs (least (digits_by 1 w v))
item_text Characters signed w v = without_zeros (digits_by 8 w v)
item_text Character signed w v = v % 256 ∷ []

-- a letter of either case in lower case
abbrev pub lower_case : ℕ → ℕ
lower_case c = if nat_le 65 c && nat_le c 90 then c + 32 else c

-- the format of a lower case letter, with a 0 before it or without; `c` has none with a 0
abbrev pub letter_format : ℕ → Bool → Option Format
letter_format c least =
    -- d
    if c == 100 then Some (if least then LeastDecimal else Decimal)
    -- h and x
    else if c == 104 || c == 120 then Some (if least then LeastHexadecimal else Hexadecimal)
    -- o
    else if c == 111 then Some (if least then LeastOctal else Octal)
    -- b
    else if c == 98 then Some (if least then LeastBinary else Binary)
    -- s
    else if c == 115 then Some Characters
    -- c
    else if c == 99 then (if least then None else Some Character)
    else None

-- the format that a letter asks for, with a 0 before it or without
abbrev pub format_of : ℕ → Bool → Option Format
format_of letter least = letter_format (lower_case letter) least

-- what an item of a format shows, nothing where there is no such item
abbrev pub shown : Option Format → Bool → ℕ → ℕ → List ℕ
shown None signed w v = []
shown (Some format) signed w v = item_text format signed w v

-- what an item of a letter, with a 0 before it or without, shows of a value
abbrev pub letter_text : ℕ → Bool → Bool → ℕ → ℕ → List ℕ
letter_text letter least signed w v = shown (format_of letter least) signed w v
