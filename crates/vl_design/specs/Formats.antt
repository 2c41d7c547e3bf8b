-- The texts of displays: arguments are taken from the left, and a string is a format whose items take the arguments
-- after it (IEEE 1364-2005, clause 17.1.1).
use Rattle.std.specs.Prelude.{ℕ, zero, suc, ◌+◌, ◌*◌, ◌%◌, ◌^◌, max, true, false, List, [], ◌∷◌, ◌++◌, length, if◌then◌else◌, ◌==◌, Option, Some, None, codes}
use Rattle.std.specs.Int.Digits.{number_from_digits}
use Rattle.vl_base.specs.Display.{Format, Decimal, format_of, lower_case}
use Rattle.vl_design.specs.Syntax.{Exp, Num, Piece, Literal, Shown}

-- an argument of a system call: none between two commas, a string, or an expression
pub data Arg : Type 0 where
  Null : Arg
  Str : (text : List ℕ) → Arg
  Value : (e : Exp) → Arg

-- a string as an operand: 8 bits for each byte, the first at the top; the empty one is one zero byte (clause 5.2.3)
abbrev pub text_width : List ℕ → ℕ
text_width text = 8 * max 1 (length text)

abbrev pub text_number : List ℕ → ℕ
text_number text = number_from_digits 256 text % 2 ^ text_width text

abbrev pub string_exp : List ℕ → Exp
string_exp text = Num (text_number text) (text_width text) false

-- what an item of a format shows: the next argument
abbrev pub operand : List Arg → Exp
operand [] = Num 0 1 false
operand (Null ∷ args) = Num 0 1 false
operand (Str text ∷ args) = string_exp text
operand (Value e ∷ args) = e

abbrev pub behind : List Arg → List Arg
behind [] = []
behind (a ∷ args) = args

-- pieces with a text in front
abbrev pub with_text : List ℕ → List Piece → List Piece
with_text text (Literal t ∷ ps) = Literal (text ++ t) ∷ ps
with_text text ps = Literal text ∷ ps

-- where a format is read: between items, behind a `%`, or behind a `%0`
pub data FormatPosition : Type 0 where
  InText : FormatPosition
  Percent : FormatPosition
  PercentZero : FormatPosition

-- an item of no format shows nothing, and leaves the arguments
abbrev pub behind_item : Option Format → List Arg → List Arg
behind_item None args = args
behind_item (Some format) args = behind args

abbrev pub with_item : Option Format → Exp → List Piece → List Piece
with_item None e ps = ps
with_item (Some format) e ps = Shown format e ∷ ps

abbrev mutual
  -- the pieces of a format, for an instance's path and the arguments after the format
  pub format_pieces : List ℕ → FormatPosition → List ℕ → List Arg → List Piece
  format_pieces path r [] args = []
  format_pieces path InText (c ∷ cs) args =
      if c == 37 then format_pieces path Percent cs args else with_text (c ∷ []) (format_pieces path InText cs args)
  format_pieces path Percent (c ∷ cs) args =
      -- 0
      if c == 48 then format_pieces path PercentZero cs args
      -- %
      else if c == 37 then with_text (37 ∷ []) (format_pieces path InText cs args)
      -- m
      else if lower_case c == 109 then with_text path (format_pieces path InText cs args)
      else with_item (format_of c false) (operand args) (format_pieces path InText cs (behind_item (format_of c false) args))
  format_pieces path PercentZero (c ∷ cs) args =
      with_item (format_of c true) (operand args) (format_pieces path InText cs (behind_item (format_of c true) args))

-- how many arguments pieces took
abbrev pub taken : List Piece → ℕ
taken [] = 0
taken (Literal t ∷ ps) = taken ps
taken (Shown format e ∷ ps) = 1 + taken ps

-- the pieces of the arguments, of which so many first ones are taken: a null one is a space, another prints by `%d`
abbrev pub pieces_from : List ℕ → ℕ → List Arg → List Piece
pieces_from path n [] = []
pieces_from path (suc n) (a ∷ args) = pieces_from path n args
pieces_from path zero (Null ∷ args) = Literal (codes " ") ∷ pieces_from path zero args
pieces_from path zero (Str text ∷ args) =
    let ps = format_pieces path InText text args in ps ++ pieces_from path (taken ps) args
pieces_from path zero (Value e ∷ args) = Shown Decimal e ∷ pieces_from path zero args

-- how many arguments the items of a format take
abbrev pub items_in : List ℕ → ℕ
items_in text = taken (format_pieces [] InText text [])
