-- The value of a sized expression: no contexts are left (IEEE 1364-2005, clause 5).
use Rattle.std.specs.Prelude.{ℕ, ◌%◌, ◌^◌, List, [], ◌∷◌, slice_index, slice_get, if◌then◌else◌, ◌==◌}
use Rattle.vl_design.specs.vl_base.specs.Value.{reading, resized, unary_value, binary_value}
use Rattle.vl_design.specs.vl_base.specs.Selects.{picked, appended}
use Rattle.vl_design.specs.Sized.{Sized, At, Node, Num, Label, Sig, Word, Pick, Slice, Un, Bin, Cond, Cat, Rep, Cast, Call, Time, LastAnswer, Several, NoneSized, MoreSized}
use Rattle.vl_design.specs.Width.{Scope, input_widths}
use Rattle.vl_design.specs.Value.{Sample, words_of, value_of, word_at, lowest_bit, repeated}
use Rattle.vl_width.specs.Widths.{width_of, sign_of, widths_of, node_width}

abbrev mutual
  -- the node's own value, extended by the sign, or cut, to the width
  pub sized_value : Scope → Sample → Sized → ℕ
  sized_value scope s (At w signed n) = resized signed (node_width scope.names n) w (node_value scope s n)

  -- a node's own value; an operator works at its operands' width
  pub node_value : Scope → Sample → Node → ℕ
  node_value scope s (Num v w signed) = v
  node_value scope s (Label v care w signed) = v
  node_value scope s (Sig k) = value_of s.values k
  node_value scope s (Word m a) =
      let address = reading (sign_of a) (width_of a) (sized_value scope s a) in
      slice_index (words_of s.values m) (word_at (slice_get scope.names.rows m) address)
  node_value scope s (Pick b i from w) =
      let index = reading (sign_of i) (width_of i) (sized_value scope s i) in
      picked (width_of b) (sized_value scope s b) (lowest_bit from index) w
  node_value scope s (Slice b low w) = picked (width_of b) (sized_value scope s b) low w
  node_value scope s (Un op a) = unary_value op (width_of a) (sized_value scope s a)
  node_value scope s (Bin op a b) = binary_value op (sign_of a) (width_of a) (sized_value scope s a) (sized_value scope s b)
  node_value scope s (Cond t a b) = if sized_value scope s t == 0 then sized_value scope s b else sized_value scope s a
  node_value scope s (Cat xs) = side_by_side scope s xs
  node_value scope s (Rep n xs) = repeated n (widths_of xs) (side_by_side scope s xs)
  node_value scope s (Cast signed a) = sized_value scope s a
  node_value scope s (Call f xs) = scope.call f (arguments scope s xs (input_widths scope.names f))
  node_value scope s Time = s.time % 2 ^ 64
  node_value scope s LastAnswer = s.answer

  -- values side by side, the first at the top (clause 5.1.14)
  pub side_by_side : Scope → Sample → Several → ℕ
  side_by_side scope s NoneSized = 0
  side_by_side scope s (MoreSized x xs) = appended (sized_value scope s x) (widths_of xs) (side_by_side scope s xs)

  -- the values of arguments, each cut to its input's width (clause 10.4.3)
  pub arguments : Scope → Sample → Several → List ℕ → List ℕ
  arguments scope s NoneSized widths = []
  arguments scope s (MoreSized x xs) [] = []
  arguments scope s (MoreSized x xs) (w ∷ ws) = sized_value scope s x % 2 ^ w ∷ arguments scope s xs ws
