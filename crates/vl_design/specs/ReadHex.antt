-- The text that `$readmemh` reads (IEEE 1364-2005, clause 17.2.9): white space, comments, words in hexadecimal digits
-- with `_` between them, and addresses behind `@`. It ends at what is malformed (own).
use Rattle.std.specs.Prelude.{ℕ, ◌+◌, ◌*◌, ◌-◌, ◌%◌, ◌^◌, nat_lt, nat_le, Bool, ◌&&◌, ◌||◌, List, [], ◌∷◌, ◌++◌, slice_set, if◌then◌else◌, ◌==◌, Option, Some, None, ℤ, pos, ◌-ℤ◌, int_le}
use Rattle.std.specs.Int.RustNames.{unsigned_abs}

abbrev pub is_space : ℕ → Bool
is_space c = (c == 32) || (nat_le 9 c && nat_le c 10) || (nat_le 12 c && nat_le c 13)

-- the value of a hexadecimal digit
abbrev pub hex_digit : ℕ → Option ℕ
hex_digit c =
    if nat_le 48 c && nat_le c 57 then Some (c - 48)
    else if nat_le 65 c && nat_le c 70 then Some (c - 55)
    else if nat_le 97 c && nat_le c 102 then Some (c - 87)
    else None

-- a word at the next place, or the next place
pub data Step : Type 0 where
  Loads : (word : ℕ) → Step
  Goes : (address : ℕ) → Step

-- where the text is read
pub data HexPosition : Type 0 where
  -- between words
  BetweenWords : HexPosition
  -- behind a `/`, and behind the step that stands before it
  Slash : (behind : List Step) → HexPosition
  -- in a comment to the end of the line, in one up to `*/`, and there behind a `*`
  Line : HexPosition
  Block : HexPosition
  Star : HexPosition
  -- in a word, in an address, which so far have this value, and behind `@`
  InWord : (value : ℕ) → HexPosition
  At : HexPosition
  InAddress : (value : ℕ) → HexPosition

abbrev pub Next : Type 0
Next = Option (List Step × HexPosition)

-- on without a step
abbrev pub on : HexPosition → Next
on r = Some ([], r)

abbrev pub digit_next : (ℕ → HexPosition) → ℕ → Option ℕ → Next
digit_next in_it v None = None
digit_next in_it v (Some d) = on (in_it (16 * v + d))

-- at a byte that may end a step: at white space, or before a comment
abbrev pub end_next : List Step → ℕ → Next → Next
end_next behind c other =
    if is_space c then Some (behind, BetweenWords) else if c == 47 then on (Slash behind) else other

-- what is read at a byte, and where the reading goes on; none where the text is malformed
abbrev pub read_next : HexPosition → ℕ → Next
read_next BetweenWords c = if c == 64 then on At else end_next [] c (digit_next InWord 0 (hex_digit c))
read_next (Slash behind) c = if c == 47 then Some (behind, Line) else if c == 42 then Some (behind, Block) else None
read_next Line c = if c == 10 then on BetweenWords else on Line
read_next Block c = if c == 42 then on Star else on Block
read_next Star c = if c == 47 then on BetweenWords else if c == 42 then on Star else on Block
read_next (InWord v) c = if c == 95 then on (InWord v) else end_next (Loads v ∷ []) c (digit_next InWord v (hex_digit c))
read_next At c = digit_next InAddress 0 (hex_digit c)
read_next (InAddress v) c = end_next (Goes v ∷ []) c (digit_next InAddress v (hex_digit c))

-- what the end of the text ends
abbrev pub last_steps : HexPosition → List Step
last_steps (InWord v) = Loads v ∷ []
last_steps (InAddress v) = Goes v ∷ []
last_steps r = []

abbrev pub steps_on : (HexPosition → List Step) → Next → List Step
steps_on go None = []
steps_on go (Some (some, r)) = some ++ go r

-- the words and addresses of a text, up to what is malformed
abbrev pub steps : HexPosition → List ℕ → List Step
steps r [] = last_steps r
steps r (c ∷ cs) = steps_on (λ next. steps next cs) (read_next r c)

-- the words of a memory of n words of w bits, the lowest at an address, after these steps from word i on: it ends at
-- an address that isn't there
abbrev pub loaded : ℕ → ℤ → ℕ → ℕ → List Step → List ℕ → List ℕ
loaded w lowest n i [] words = words
loaded w lowest n i (Loads v ∷ more) words =
    if nat_lt i n then loaded w lowest n (i + 1) more (slice_set words i (v % 2 ^ w)) else words
loaded w lowest n i (Goes a ∷ more) words =
    let z = pos a -ℤ lowest in
    if int_le (pos 0) z && nat_lt (unsigned_abs z) n then loaded w lowest n (unsigned_abs z) more words else words

-- the words of a memory after `$readmemh` of a text
abbrev pub words_read : ℕ → ℤ → ℕ → List ℕ → List ℕ → List ℕ
words_read w lowest n text words = loaded w lowest n 0 (steps BetweenWords text) words
