-- The width and sign at which a sized expression stands, and the width of its node's own value (IEEE 1364-2005,
-- clauses 5.4 and 5.5).
use Rattle.std.specs.Prelude.{ℕ, ◌+◌, ◌*◌, Bool}
use Rattle.vl_design.specs.vl_base.specs.Value.{unary_width, binary_width}
use Rattle.vl_design.specs.declared.design.Form.{Form}
use Rattle.vl_design.specs.Sized.{Sized, At, Node, Num, Label, Sig, Word, Pick, Slice, Un, Bin, Cond, Cat, Rep, Cast, Call, Time, LastAnswer, Several, NoneSized, MoreSized}
use Rattle.vl_design.specs.Width.{Names, signal_form, result_form}

abbrev pub width_of : Sized → ℕ
width_of (At w signed n) = w

abbrev pub sign_of : Sized → Bool
sign_of (At w signed n) = signed

abbrev pub form_of : Sized → Form
form_of x = record { width = width_of x; signed = sign_of x }

-- the widths of several together
abbrev pub widths_of : Several → ℕ
widths_of NoneSized = 0
widths_of (MoreSized x xs) = width_of x + widths_of xs

-- the width of a node's own value: an operator's is that of its operands, or 1 bit
abbrev pub node_width : Names → Node → ℕ
node_width names (Num v w signed) = w
node_width names (Label v care w signed) = w
node_width names (Sig k) = (signal_form names.rows k).width
node_width names (Word m a) = (signal_form names.rows m).width
node_width names (Pick b i from w) = w
node_width names (Slice b low w) = w
node_width names (Un op a) = unary_width op (width_of a)
node_width names (Bin op a b) = binary_width op (width_of a)
node_width names (Cond t a b) = width_of a
node_width names (Cat xs) = widths_of xs
node_width names (Rep n xs) = n * widths_of xs
node_width names (Cast signed a) = width_of a
node_width names (Call f xs) = (result_form names f).width
node_width names Time = 64
node_width names LastAnswer = 32
