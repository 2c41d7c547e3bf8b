-- What stands at the front of a text, read from left to right. (The lexer's own terms: its public contract cites none
-- of them.)
use Rattle.std.specs.Prelude.{ℕ, zero, suc, ◌+◌, ◌-◌, ◌*◌, ◌%◌, ◌^◌, ◌==◌, nat_le, Bool, true, false, ◌&&◌, cond, if◌then◌else◌, List, [], ◌∷◌, length, take, drop, Option, Some, None, Result, Ok, Err}
use Rattle.vl_tree.specs.vl_base.specs.declared.number.Number.{Number}
use Rattle.vl_tree.specs.declared.token.TokenKind.{TokenKind}
use Rattle.vl_tree.specs.declared.token.TokenKind.TheVariants as t
use Rattle.vl_lex.specs.declared.bytes.First.{First}
use Rattle.vl_lex.specs.declared.bytes.First.TheVariants as f
use Rattle.vl_lex.specs.declared.runs.Run.{Run}
use Rattle.vl_lex.specs.declared.runs.Run.TheVariants as r
use Rattle.vl_tree.specs.Bytes.{is_white, is_letter, is_figure, is_octal, is_name_byte, is_printed, is_decimal, is_in_line, begins, past}
use Rattle.vl_tree.specs.Names.{is_reserved}
use Rattle.vl_tree.specs.Numbers.{is_further_digit, is_first_digit, radix_of, is_sign, value_of, number_of, plain_number}
use Rattle.vl_tree.specs.Strings.{is_plain, escape_of}
use Rattle.vl_tree.specs.Marks.{is_among, marks_of_one, marks_of_two, marks_of_three}
use Rattle.vl_tree.specs.Gaps.{opens_line, opens_block, opens_attribute, is_directive}

unfoldable pub sign_of : ℕ → First
sign_of b = if b == 39 then f.Apostrophe else (if b == 34 then f.Quote else (if b == 36 then f.Dollar else (if b == 92 then f.Backslash else (if b == 96 then f.Grave else f.Other))))

-- what begins with a byte
unfoldable pub first_of : ℕ → First
first_of b = if is_white b then f.White else (if is_letter b then f.Letter else (if is_figure b then f.Figure else sign_of b))

abbrev pub test_of : Run → ℕ → Bool
test_of r.White = is_white
test_of r.Name = is_name_byte
test_of r.Printed = is_printed
test_of r.Decimal = is_decimal
test_of r.Line = is_in_line
test_of (r.Digits radix first) = is_further_digit radix first

-- the run of bytes at the front that pass
unfoldable pub run : (ℕ → Bool) → List ℕ → List ℕ
run p [] = []
run p (b ∷ bs) = cond (p b) (b ∷ run p bs) []

-- what follows the first a that a b follows, and this b
unfoldable pub past_pair : ℕ → ℕ → List ℕ → Option (List ℕ)
past_pair a b [] = None
past_pair a b (c ∷ cs) = cond ((c == a) && begins b cs) (Some (drop 1 cs)) (past_pair a b cs)

-- ---- what comes next

-- a gap or a token is passed, with this behind it; or neither is there, for this cause
pub data Next : Type 0 where
  over : List ℕ → Next
  found : TokenKind → List ℕ → Next
  stuck : ℕ → Next

abbrev pub over_or : ℕ → Option (List ℕ) → Next
over_or cause (Some rest) = over rest
over_or cause None = stuck cause

unfoldable pub word_at : List ℕ → Next
word_at text = found (if is_reserved (run is_name_byte text) then t.Keyword (run is_name_byte text) else t.Name (run is_name_byte text)) (past is_name_byte text)

abbrev pub system_by : List ℕ → List ℕ → Next
system_by [] rest = stuck 1
system_by (c ∷ []) rest = stuck 1
system_by (c ∷ b ∷ bs) rest = found (t.System (c ∷ b ∷ bs)) rest

unfoldable pub system_at : List ℕ → Next
system_at text = system_by (run is_name_byte text) (past is_name_byte text)

abbrev pub ends_at_white : List ℕ → Bool
ends_at_white [] = true
ends_at_white (b ∷ bs) = is_white b

abbrev pub escaped_by : List ℕ → List ℕ → Next
escaped_by [] rest = stuck 1
escaped_by (b ∷ bs) rest = if ends_at_white rest then found (t.Name (b ∷ bs)) rest else stuck 1

unfoldable pub escaped_at : List ℕ → Next
escaped_at inside = escaped_by (run is_printed inside) (past is_printed inside)

unfoldable pub directive_at : List ℕ → Next
directive_at name = if is_directive name then over (past is_in_line name) else stuck 1

unfoldable pub mark_at : List ℕ → Next
mark_at text =
    if is_among marks_of_three (take 3 text) then found (t.Mark (take 3 text)) (drop 3 text)
    else (if is_among marks_of_two (take 2 text) then found (t.Mark (take 2 text)) (drop 2 text)
    else (if is_among marks_of_one (take 1 text) then found (t.Mark (take 1 text)) (drop 1 text)
    else stuck 1))

unfoldable pub other_at : List ℕ → Next
other_at text =
    if opens_line text then over (past is_in_line (drop 2 text))
    else (if opens_block text then over_or 2 (past_pair 42 47 (drop 2 text))
    else (if opens_attribute text then over_or 2 (past_pair 42 41 (drop 2 text))
    else mark_at text))

-- ---- strings

abbrev pub last_octal : ℕ → List ℕ → ℕ × List ℕ
last_octal x [] = (x, [])
last_octal x (b ∷ s) = if is_octal b then ((x * 8 + (b - 48)) % 256, s) else (x, b ∷ s)

abbrev pub further_octal : ℕ → List ℕ → ℕ × List ℕ
further_octal x [] = (x, [])
further_octal x (b ∷ s) = if is_octal b then last_octal (x * 8 + (b - 48)) s else (x, b ∷ s)

unfoldable pub escape_at : List ℕ → Option (ℕ × List ℕ)
escape_at [] = None
escape_at (b ∷ s) = if is_octal b then Some (further_octal (b - 48) s) else (if b == 10 then None else Some (escape_of b, s))

unfoldable pub item_at : List ℕ → Option (ℕ × List ℕ)
item_at [] = None
item_at (c ∷ s) = if c == 92 then escape_at s else (if is_plain c then Some (c, s) else None)

-- as many as there are; the number is at least that of the bytes
unfoldable pub items_at : ℕ → List ℕ → List ℕ × List ℕ
items_at zero text = ([], text)
items_at (suc n) text = elim (item_at text) [ None ↦ ([], text) | Some x ↦ (x.0 ∷ (items_at n x.1).0, (items_at n x.1).1) ]

abbrev pub closed : List ℕ → List ℕ → Next
closed bytes [] = stuck 3
closed bytes (b ∷ rest) = if b == 34 then found (t.Str bytes) rest else stuck 3

unfoldable pub string_at : List ℕ → Next
string_at inside = closed (items_at (length inside) inside).0 (items_at (length inside) inside).1

-- ---- numbers

pub record Parts : Type 0 where
  pub signed : Bool
  pub radix : ℕ
  pub digits : List ℕ
  pub rest : List ℕ

abbrev pub sign_at : List ℕ → Bool × List ℕ
sign_at [] = (false, [])
sign_at (b ∷ text) = if is_sign b then (true, text) else (false, b ∷ text)

abbrev pub digits_from : Bool → ℕ → List ℕ → Option Parts
digits_from signed radix [] = None
digits_from signed radix (b ∷ text) =
    if is_first_digit radix b
    then Some (record { signed = signed; radix = radix; digits = b ∷ run (is_further_digit radix b) text; rest = past (is_further_digit radix b) text })
    else None

abbrev pub behind_base : Bool → Option ℕ → List ℕ → Option Parts
behind_base signed None text = None
behind_base signed (Some radix) text = digits_from signed radix text

abbrev pub base_at : Bool → List ℕ → Option Parts
base_at signed [] = None
base_at signed (b ∷ text) = behind_base signed (radix_of b) (past is_white text)

unfoldable pub digits_at : List ℕ → Option Parts
digits_at tail = base_at (sign_at tail).0 (sign_at tail).1

abbrev pub number_found : Result Number ℕ → List ℕ → Next
number_found (Ok n) rest = found (t.Number n) rest
number_found (Err cause) rest = stuck cause

abbrev pub based_by : List ℕ → Option Parts → Next
based_by size None = stuck 4
based_by size (Some d) = number_found (number_of size d.signed d.radix d.digits) d.rest

unfoldable pub plain_at : List ℕ → List ℕ → Next
plain_at digits rest = if nat_le (2 ^ 32) (value_of 10 digits) then stuck 5 else found (t.Number (plain_number digits)) rest

-- behind the digits of a size, and the white space that follows
abbrev pub behind_size : List ℕ → List ℕ → List ℕ → Next
behind_size size after [] = plain_at size after
behind_size size after (b ∷ tail) = if b == 39 then based_by size (digits_at tail) else plain_at size after

unfoldable pub number_at : List ℕ → Next
number_at text = behind_size (run is_decimal text) (past is_decimal text) (past is_white (past is_decimal text))

-- ---- all of it

abbrev pub next_by : First → ℕ → List ℕ → Next
next_by f.White b rest = over rest
next_by f.Letter b rest = word_at (b ∷ rest)
next_by f.Figure b rest = number_at (b ∷ rest)
next_by f.Apostrophe b rest = number_at (b ∷ rest)
next_by f.Quote b rest = string_at rest
next_by f.Dollar b rest = system_at (b ∷ rest)
next_by f.Backslash b rest = escaped_at rest
next_by f.Grave b rest = directive_at rest
next_by f.Other b rest = other_at (b ∷ rest)

unfoldable pub next : List ℕ → Next
next [] = stuck 1
next (b ∷ rest) = next_by (first_of b) b rest
