-- Widths of sound expressions.
use Rattle.std.proofs.Common.{◌≡◌, ◌<◌, ◌≤◌, ◌*◌, ℕ, zero, suc, List, length, refl, arith}
use Rattle.std.specs.Prelude.{slice_get, Option, Some, None}
use Rattle.std.proofs.lemmas.Option.{slice_get_within}
use Rattle.vl_base.specs.declared.bits.UnOp.{UnOp}
use Rattle.vl_base.specs.declared.bits.UnOp.TheVariants.{Neg, Not}
use Rattle.vl_base.specs.declared.bits.BinOp.{BinOp}
use Rattle.vl_base.specs.declared.bits.BinOp.TheVariants.{Add, Sub, Mul, Div, Rem, And, Or, Xor, Xnor, Shl, Shr, Sshr}
use Rattle.vl_design.specs.declared.design.Form.{Form}
use Rattle.vl_design.specs.Syntax.{Exp, Num, Label, Sig, Word, Pick, Slice, Un, Bin, Cond, Cat, Rep, Cast, Call, Time, LastAnswer, Fun}
use Rattle.vl_design.specs.Width.{Names, form, unary_form, binary_form, joined}
use Rattle.vl_design.specs.Sound.{IsSoundExp, IsWidth, Takes}
use Rattle.vl_eval.proofs.Names.{named-width, signal-named, memory-named, named-there}
pub use Rattle.vl_design.proofs.Shared.{repeated-narrow}

joined-width : (a b : Form) → IsWidth a.width → IsWidth b.width → IsWidth (joined a b).width
joined-width a b p q = record { wide = omega arith; narrow = omega arith }

unary-width : (op : UnOp) (a : Form) → IsWidth a.width → IsWidth (unary_form op a).width
unary-width Neg a p = p
unary-width Not a p = p
unary-width op a p = record { wide = omega arith; narrow = omega arith }

binary-width : (op : BinOp) (a b : Form) → IsWidth a.width → IsWidth b.width → IsWidth (binary_form op a b).width
binary-width Add a b p q = joined-width a b p q
binary-width Sub a b p q = joined-width a b p q
binary-width Mul a b p q = joined-width a b p q
binary-width Div a b p q = joined-width a b p q
binary-width Rem a b p q = joined-width a b p q
binary-width And a b p q = joined-width a b p q
binary-width Or a b p q = joined-width a b p q
binary-width Xor a b p q = joined-width a b p q
binary-width Xnor a b p q = joined-width a b p q
binary-width Shl a b p q = p
binary-width Shr a b p q = p
binary-width Sshr a b p q = p
binary-width op a b p q = record { wide = omega arith; narrow = omega arith }

pub form-width : (names : Names) (e : Exp) → IsSoundExp names e → IsWidth (form names e).width
form-width names (Num v w s) h = h.0
form-width names (Label v care w s) h = h.0
form-width names (Sig k) h = named-width names k (signal-named names k h)
form-width names (Word m a) h = named-width names m (memory-named names m h.0)
form-width names (Pick b i from w) h = h.0
form-width names (Slice b low w) h = h.0
form-width names (Un op a) h = unary-width op (form names a) (form-width names a h)
form-width names (Bin op a b) h = binary-width op (form names a) (form names b) (form-width names a h.0) (form-width names b h.1)
form-width names (Cond t a b) h = joined-width (form names a) (form names b) (form-width names a h.1) (form-width names b h.2)
form-width names (Cat es) h = h.0
form-width names (Rep n es) h = h.0
form-width names (Cast s a) h = form-width names a h
form-width names (Call f es) h = h.1
form-width names Time h = record { wide = omega arith; narrow = omega arith }
form-width names LastAnswer h = record { wide = omega arith; narrow = omega arith }

taken-there : (funs : List Fun) (f n : ℕ) → Takes (slice_get funs f) n → f < length funs
taken-there funs f n h = go (slice_get funs f) refl h
  where
    go : (r : Option Fun) → slice_get funs f ≡ r → Takes r n → f < length funs
    go None e i = absurd i
    go (Some r) e i = slice_get_within funs f r e

pub called-there : (names : Names) (f n : ℕ) → Takes (slice_get names.funs f) n → f < length names.funs
called-there names f n h = taken-there names.funs f n h

pub ruleset width_rules = (form-width, named-width, signal-named, memory-named, named-there, repeated-narrow, called-there)
