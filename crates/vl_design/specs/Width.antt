-- The width and the sign of an expression (IEEE 1364-2005, clauses 5.4 and 5.5).
use Rattle.std.specs.Prelude.{ℕ, ◌+◌, ◌*◌, max, true, false, ◌&&◌, List, [], ◌++◌, map, slice_get, Option, Some, None}
use Rattle.vl_base.specs.declared.bits.UnOp.{UnOp}
use Rattle.vl_base.specs.declared.bits.UnOp.TheVariants.{Neg, Not}
use Rattle.vl_base.specs.declared.bits.BinOp.{BinOp}
use Rattle.vl_base.specs.declared.bits.BinOp.TheVariants.{Add, Sub, Mul, Div, Rem, And, Or, Xor, Xnor, Shl, Shr, Sshr, LogAnd, LogOr}
use Rattle.vl_base.specs.declared.files.File.{File}
use Rattle.vl_design.specs.declared.design.Form.{Form}
use Rattle.vl_design.specs.Syntax.{Exp, Num, Label, Sig, Word, Pick, Slice, Un, Bin, Cond, Cat, Rep, Cast, Call, Time, LastAnswer, Exps, NoExps, MoreExps, Row, Fun, Flat}

-- what numbers stand for: signals, in a function's body with its locals behind the design's; the design's signals alone;
-- functions
pub record Names : Type 0 where
  pub rows : List Row
  pub signals : List Row
  pub funs : List Fun

-- the names, the files, and what a function gives for values of its inputs
pub record Scope : Type 0 where
  pub names : Names
  pub files : List File
  pub call : ℕ → List ℕ → ℕ

-- one unsigned bit
abbrev pub bit : Form
bit = record { width = 1; signed = false }

-- an unsigned form
abbrev pub unsigned : ℕ → Form
unsigned w = record { width = w; signed = false }

-- the form of a signal, or one unsigned bit where there is none
abbrev pub row_form : Option Row → Form
row_form None = bit
row_form (Some r) = record { width = r.width; signed = r.signed }

abbrev pub signal_form : List Row → ℕ → Form
signal_form rows k = row_form (slice_get rows k)

-- the signals of a function's body: its locals come behind the design's signals, whoever calls it
abbrev pub rows_in : Names → Fun → List Row
rows_in names f = names.signals ++ f.locals

-- the names of a function's body
abbrev pub names_in : Names → Fun → Names
names_in names f = record names { rows = rows_in names f }

-- the names of a design
abbrev pub names_of : Flat → Names
names_of d = record { rows = d.rows; signals = d.rows; funs = d.funs }

abbrev pub result_form_of : Names → Option Fun → Form
result_form_of names None = bit
result_form_of names (Some f) = signal_form (rows_in names f) f.result

-- the form of a function's result
abbrev pub result_form : Names → ℕ → Form
result_form names f = result_form_of names (slice_get names.funs f)

abbrev pub input_widths_of : Names → Option Fun → List ℕ
input_widths_of names None = []
input_widths_of names (Some f) = map (λ k. (signal_form (rows_in names f) k).width) f.inputs

-- the widths of a function's inputs
abbrev pub input_widths : Names → ℕ → List ℕ
input_widths names f = input_widths_of names (slice_get names.funs f)

-- the longer of two widths, signed where both are
abbrev pub joined : Form → Form → Form
joined a b = record { width = max a.width b.width; signed = a.signed && b.signed }

-- the form of a unary operator's value, from its operand's form (table 5-22)
abbrev pub unary_form : UnOp → Form → Form
unary_form Neg a = a
unary_form Not a = a
unary_form op a = bit

-- the form of a binary operator's value, from its operands' forms (table 5-22)
abbrev pub binary_form : BinOp → Form → Form → Form
binary_form Add a b = joined a b
binary_form Sub a b = joined a b
binary_form Mul a b = joined a b
binary_form Div a b = joined a b
binary_form Rem a b = joined a b
binary_form And a b = joined a b
binary_form Or a b = joined a b
binary_form Xor a b = joined a b
binary_form Xnor a b = joined a b
binary_form Shl a b = a
binary_form Shr a b = a
binary_form Sshr a b = a
binary_form op a b = bit

abbrev mutual
  -- the form of an expression read for itself
  pub form : Names → Exp → Form
  form names (Num v w s) = record { width = w; signed = s }
  form names (Label v care w s) = record { width = w; signed = s }
  form names (Sig k) = signal_form names.rows k
  form names (Word m a) = signal_form names.rows m
  form names (Pick b i from w) = unsigned w
  form names (Slice b low w) = unsigned w
  form names (Un op a) = unary_form op (form names a)
  form names (Bin op a b) = binary_form op (form names a) (form names b)
  form names (Cond t a b) = joined (form names a) (form names b)
  form names (Cat es) = unsigned (total_width names es)
  form names (Rep n es) = unsigned (n * total_width names es)
  form names (Cast s a) = record { width = (form names a).width; signed = s }
  form names (Call f es) = result_form names f
  form names Time = unsigned 64
  form names LastAnswer = record { width = 32; signed = true }

  -- the widths of a list together
  pub total_width : Names → Exps → ℕ
  total_width names NoExps = 0
  total_width names (MoreExps e es) = (form names e).width + total_width names es

-- ---- contexts (clauses 5.4.1 and 5.5.2)

-- the context of a unary operator's operand, where its value is read in the context c
abbrev pub operand_form : UnOp → Form → Form → Form
operand_form Neg a c = c
operand_form Not a c = c
operand_form op a c = a

-- the context of a binary operator's left operand
abbrev pub left_form : BinOp → Form → Form → Form → Form
left_form Add a b c = c
left_form Sub a b c = c
left_form Mul a b c = c
left_form Div a b c = c
left_form Rem a b c = c
left_form And a b c = c
left_form Or a b c = c
left_form Xor a b c = c
left_form Xnor a b c = c
left_form Shl a b c = c
left_form Shr a b c = c
left_form Sshr a b c = c
left_form LogAnd a b c = a
left_form LogOr a b c = a
left_form op a b c = joined a b

-- the context of its right operand: that of the left one, but a shift's amount and the operands of && and || are read
-- for themselves
abbrev pub right_form : BinOp → Form → Form → Form → Form
right_form Shl a b c = b
right_form Shr a b c = b
right_form Sshr a b c = b
right_form LogAnd a b c = b
right_form LogOr a b c = b
right_form op a b c = left_form op a b c

-- the context of the right side of an assignment to w bits
abbrev pub assigned : ℕ → Form → Form
assigned w f = record { width = max w f.width; signed = f.signed }
