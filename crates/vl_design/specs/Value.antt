-- The value of an expression in a context (IEEE 1364-2005, clause 5).
use Rattle.std.specs.Prelude.{ℕ, zero, suc, ◌%◌, ◌^◌, ℤ, pos, ◌+ℤ◌, ◌-ℤ◌, int_le, int_lt, ◌&&◌, List, [], ◌∷◌, slice_index, slice_get, unwrap_or, Option, Some, None, if◌then◌else◌, ◌==◌}
use Rattle.std.specs.Int.RustNames.{unsigned_abs}
use Rattle.vl_base.specs.Value.{reading, resized, unary_value, binary_value}
use Rattle.vl_base.specs.Selects.{picked, appended}
use Rattle.vl_design.specs.declared.design.Form.{Form}
use Rattle.vl_design.specs.declared.design.LowestBit.{LowestBit}
use Rattle.vl_design.specs.Syntax.{Exp, Num, Label, Sig, Word, Pick, Slice, Un, Bin, Cond, Cat, Rep, Cast, Call, Time, LastAnswer, Exps, NoExps, MoreExps, Row}
use Rattle.vl_design.specs.Width.{Scope, form, total_width, signal_form, result_form, input_widths, operand_form, left_form, right_form, assigned}

-- what an expression reads: the words of each signal, the ticks begun, and the answer of the system function called last
pub record Sample : Type 0 where
  pub values : List (List ℕ)
  pub time : ℕ
  pub answer : ℕ

-- the words of a signal
abbrev pub words_of : List (List ℕ) → ℕ → List ℕ
words_of values k = unwrap_or (slice_get values k) []

-- the value of a net or a variable, which has one word
abbrev pub value_of : List (List ℕ) → ℕ → ℕ
value_of values k = slice_index (words_of values k) 0

-- the word of an address, from 0 at the lowest one; one past the last where there is none (clause 5.2.2; that one
-- holds 0 is own)
abbrev pub word_at : Option Row → ℤ → ℕ
word_at None z = 0
word_at (Some r) z = if int_le r.lowest z && int_lt z (r.lowest +ℤ pos r.words) then unsigned_abs (z -ℤ r.lowest) else r.words

-- the lowest bit that an index names
abbrev pub lowest_bit : LowestBit → ℤ → ℤ
lowest_bit from z = if from.taken then from.constant -ℤ z else from.constant +ℤ z

-- copies of w bits side by side
abbrev pub repeated : ℕ → ℕ → ℕ → ℕ
repeated zero w v = 0
repeated (suc n) w v = appended (repeated n w v) w v

abbrev mutual
  -- the value of an expression in the context c: operands are extended to the context first, by their sign where the
  -- context is signed
  pub value : Scope → Sample → Exp → Form → ℕ
  value scope s (Num v w signed) c = resized c.signed w c.width v
  value scope s (Label v care w signed) c = resized c.signed w c.width v
  value scope s (Sig k) c = resized c.signed (signal_form scope.names.rows k).width c.width (value_of s.values k)
  value scope s (Word m a) c =
      let f = form scope.names a in
      let word = word_at (slice_get scope.names.rows m) (reading f.signed f.width (value scope s a f)) in
      resized c.signed (signal_form scope.names.rows m).width c.width (slice_index (words_of s.values m) word)
  value scope s (Pick b i from w) c =
      let f = form scope.names i in
      picked (form scope.names b).width (value scope s b (form scope.names b)) (lowest_bit from (reading f.signed f.width (value scope s i f))) w
  value scope s (Slice b low w) c = picked (form scope.names b).width (value scope s b (form scope.names b)) low w
  value scope s (Un op a) c =
      let f = operand_form op (form scope.names a) c in
      unary_value op f.width (value scope s a f)
  value scope s (Bin op a b) c =
      let l = left_form op (form scope.names a) (form scope.names b) c in
      let r = right_form op (form scope.names a) (form scope.names b) c in
      binary_value op l.signed l.width (value scope s a l) (value scope s b r)
  value scope s (Cond t a b) c =
      if value scope s t (form scope.names t) == 0 then value scope s b c else value scope s a c
  value scope s (Cat es) c = side_by_side scope s es
  value scope s (Rep n es) c = repeated n (total_width scope.names es) (side_by_side scope s es)
  value scope s (Cast signed a) c = resized c.signed (form scope.names a).width c.width (value scope s a (form scope.names a))
  value scope s (Call f es) c = resized c.signed (result_form scope.names f).width c.width (scope.call f (arguments scope s es (input_widths scope.names f)))
  value scope s Time c = s.time % 2 ^ 64
  value scope s LastAnswer c = resized c.signed 32 c.width s.answer

  -- values side by side, the first at the top (clause 5.1.14)
  pub side_by_side : Scope → Sample → Exps → ℕ
  side_by_side scope s NoExps = 0
  side_by_side scope s (MoreExps e es) = appended (value scope s e (form scope.names e)) (total_width scope.names es) (side_by_side scope s es)

  -- the values of arguments, each as assigned to an input of such a width (clause 10.4.3)
  pub arguments : Scope → Sample → Exps → List ℕ → List ℕ
  arguments scope s NoExps widths = []
  arguments scope s (MoreExps e es) [] = []
  arguments scope s (MoreExps e es) (w ∷ ws) = value scope s e (assigned w (form scope.names e)) % 2 ^ w ∷ arguments scope s es ws

-- the value of an expression read for itself
abbrev pub own_value : Scope → Sample → Exp → ℕ
own_value scope s e = value scope s e (form scope.names e)

-- the whole number of an expression, by its own sign
abbrev pub own_reading : Scope → Sample → Exp → ℤ
own_reading scope s e = let f = form scope.names e in reading f.signed f.width (value scope s e f)
