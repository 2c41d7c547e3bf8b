-- The forms of sound expressions have 1 to 128 bits, and contexts are no narrower than what stands in them.
use Rattle.std.proofs.Common.{◌≡◌, ◌≤◌, ℕ, Bool, true, false, refl, arith, Option, Some, None}
use Rattle.std.specs.Prelude.{slice_get, ◌&&◌, IsTrue}
use Rattle.vl_design.specs.vl_base.specs.declared.bits.UnOp.{UnOp}
use Rattle.vl_design.specs.vl_base.specs.declared.bits.UnOp.TheVariants.{Neg, Not, LogNot, RedAnd, RedOr, RedXor, RedNand, RedNor, RedXnor}
use Rattle.vl_design.specs.vl_base.specs.declared.bits.BinOp.{BinOp}
use Rattle.vl_design.specs.vl_base.specs.declared.bits.BinOp.TheVariants.{Add, Sub, Mul, Div, Rem, And, Or, Xor, Xnor, Shl, Shr, Sshr, Lt, Le, Gt, Ge, Eq, Ne, LogAnd, LogOr}
use Rattle.vl_design.specs.vl_base.specs.Value.{unary_width, binary_width, needs_one_width}
use Rattle.vl_design.specs.declared.design.Form.{Form}
use Rattle.vl_design.specs.declared.design.SigKind.{SigKind}
use Rattle.vl_design.specs.Syntax.{Exp, Num, Label, Sig, Word, Pick, Slice, Un, Bin, Cond, Cat, Rep, Cast, Call, Time, LastAnswer, Row}
use Rattle.vl_design.specs.Width.{Names, form, row_form, joined, unary_form, binary_form, operand_form, left_form, right_form}
use Rattle.vl_design.specs.Sound.{IsSoundExp, IsOf, HasValue, IsMem, IsWidth}
use Rattle.vl_design.specs.vl_base.proofs.Booleans.{and_parts as both}
use Rattle.vl_design.proofs.Shared.{one}

-- a context is at least as wide as what stands in it, and signed only where that is
pub record Fits (f c : Form) : Type 0 where
  pub wide : f.width ≤ c.width
  pub signed : c.signed ≡ true → f.signed ≡ true

pub itself : (f : Form) → Fits f f
itself f = record { wide = omega arith; signed = λ h. h }

row-wide : (P : SigKind → Type 0) (o : Option Row) → IsOf P o → IsWidth (row_form o).width
row-wide P None h = absurd h
row-wide P (Some r) h = h.1

joined-is : (a b : Form) → IsWidth a.width → IsWidth b.width → IsWidth (joined a b).width
joined-is a b p q = record { wide = omega arith; narrow = omega arith }

unary-is : (op : UnOp) (a : Form) → IsWidth a.width → IsWidth (unary_form op a).width
unary-is Neg a p = p
unary-is Not a p = p
unary-is op a p = one

binary-is : (op : BinOp) (a b : Form) → IsWidth a.width → IsWidth b.width → IsWidth (binary_form op a b).width
binary-is Add a b p q = joined-is a b p q
binary-is Sub a b p q = joined-is a b p q
binary-is Mul a b p q = joined-is a b p q
binary-is Div a b p q = joined-is a b p q
binary-is Rem a b p q = joined-is a b p q
binary-is And a b p q = joined-is a b p q
binary-is Or a b p q = joined-is a b p q
binary-is Xor a b p q = joined-is a b p q
binary-is Xnor a b p q = joined-is a b p q
binary-is Shl a b p q = p
binary-is Shr a b p q = p
binary-is Sshr a b p q = p
binary-is op a b p q = one

-- a sound expression has 1 to 128 bits
pub form-is : (names : Names) (e : Exp) → IsSoundExp names e → IsWidth (form names e).width
form-is names (Num v w s) h = h.0
form-is names (Label v care w s) h = h.0
form-is names (Sig k) h = row-wide HasValue (slice_get names.rows k) h
form-is names (Word m a) h = row-wide IsMem (slice_get names.rows m) h.0
form-is names (Pick b i from w) h = h.0
form-is names (Slice b low w) h = h.0
form-is names (Un op a) h = unary-is op (form names a) (form-is names a h)
form-is names (Bin op a b) h = binary-is op (form names a) (form names b) (form-is names a h.0) (form-is names b h.1)
form-is names (Cond t a b) h = joined-is (form names a) (form names b) (form-is names a h.1) (form-is names b h.2)
form-is names (Cat es) h = h.0
form-is names (Rep n es) h = h.0
form-is names (Cast s a) h = form-is names a h
form-is names (Call f es) h = h.1
form-is names Time h = record { wide = omega arith; narrow = omega arith }
form-is names LastAnswer h = record { wide = omega arith; narrow = omega arith }

-- ---- operands in their contexts

pub first-joined : (a b : Form) → Fits a (joined a b)
first-joined a b = record { wide = omega arith; signed = λ h. (both a.signed b.signed h).0 }

pub second-joined : (a b : Form) → Fits b (joined a b)
second-joined a b = record { wide = omega arith; signed = λ h. (both a.signed b.signed h).1 }

pub then-fits : (a b c : Form) → Fits a b → Fits b c → Fits a c
then-fits a b c p q = record { wide = omega (arith, p.wide, q.wide); signed = λ h. p.signed (q.signed h) }

pub operand-fits : (op : UnOp) (a c : Form) → Fits (unary_form op a) c → Fits a (operand_form op a c)
operand-fits Neg a c h = h
operand-fits Not a c h = h
operand-fits op a c h = itself a

pub left-fits : (op : BinOp) (a b c : Form) → Fits (binary_form op a b) c → Fits a (left_form op a b c)
left-fits Add a b c h = then-fits a (joined a b) c (first-joined a b) h
left-fits Sub a b c h = then-fits a (joined a b) c (first-joined a b) h
left-fits Mul a b c h = then-fits a (joined a b) c (first-joined a b) h
left-fits Div a b c h = then-fits a (joined a b) c (first-joined a b) h
left-fits Rem a b c h = then-fits a (joined a b) c (first-joined a b) h
left-fits And a b c h = then-fits a (joined a b) c (first-joined a b) h
left-fits Or a b c h = then-fits a (joined a b) c (first-joined a b) h
left-fits Xor a b c h = then-fits a (joined a b) c (first-joined a b) h
left-fits Xnor a b c h = then-fits a (joined a b) c (first-joined a b) h
left-fits Shl a b c h = h
left-fits Shr a b c h = h
left-fits Sshr a b c h = h
left-fits LogAnd a b c h = itself a
left-fits LogOr a b c h = itself a
left-fits op a b c h = first-joined a b

pub right-fits : (op : BinOp) (a b c : Form) → Fits (binary_form op a b) c → Fits b (right_form op a b c)
right-fits Add a b c h = then-fits b (joined a b) c (second-joined a b) h
right-fits Sub a b c h = then-fits b (joined a b) c (second-joined a b) h
right-fits Mul a b c h = then-fits b (joined a b) c (second-joined a b) h
right-fits Div a b c h = then-fits b (joined a b) c (second-joined a b) h
right-fits Rem a b c h = then-fits b (joined a b) c (second-joined a b) h
right-fits And a b c h = then-fits b (joined a b) c (second-joined a b) h
right-fits Or a b c h = then-fits b (joined a b) c (second-joined a b) h
right-fits Xor a b c h = then-fits b (joined a b) c (second-joined a b) h
right-fits Xnor a b c h = then-fits b (joined a b) c (second-joined a b) h
right-fits Shl a b c h = itself b
right-fits Shr a b c h = itself b
right-fits Sshr a b c h = itself b
right-fits LogAnd a b c h = itself b
right-fits LogOr a b c h = itself b
right-fits op a b c h = second-joined a b

-- ---- the width of an operator's value, in a context

-- a value of w bits is in the context as it is: it has the context's width, or is unsigned and no wider
pub record Stays (w : ℕ) (c : Form) : Type 0 where
  pub wide : w ≤ c.width
  pub signed : c.signed ≡ true → w ≡ c.width

unsigned-bit : (c : Form) → 1 ≤ c.width → (c.signed ≡ true → false ≡ true) → Stays 1 c
unsigned-bit c h s = record { wide = h; signed = λ e. (let z : ⊥ = (let f = s e in cc) in absurd z) }

whole : (c : Form) → Stays c.width c
whole c = record { wide = omega arith; signed = λ h. refl }

pub unsigned-stays : (w : ℕ) (c : Form) → w ≤ c.width → (c.signed ≡ true → false ≡ true) → Stays w c
unsigned-stays w c h s = record { wide = h; signed = λ e. (let z : ⊥ = (let f = s e in cc) in absurd z) }

pub whole-stays : (c : Form) → Stays c.width c
whole-stays c = whole c

pub unary-stays : (op : UnOp) (a c : Form) → Fits (unary_form op a) c → Stays (unary_width op (operand_form op a c).width) c
unary-stays Neg a c h = whole c
unary-stays Not a c h = whole c
unary-stays LogNot a c h = unsigned-bit c h.wide h.signed
unary-stays RedAnd a c h = unsigned-bit c h.wide h.signed
unary-stays RedOr a c h = unsigned-bit c h.wide h.signed
unary-stays RedXor a c h = unsigned-bit c h.wide h.signed
unary-stays RedNand a c h = unsigned-bit c h.wide h.signed
unary-stays RedNor a c h = unsigned-bit c h.wide h.signed
unary-stays RedXnor a c h = unsigned-bit c h.wide h.signed

pub binary-stays : (op : BinOp) (a b c : Form) → Fits (binary_form op a b) c → Stays (binary_width op (left_form op a b c).width) c
binary-stays Add a b c h = whole c
binary-stays Sub a b c h = whole c
binary-stays Mul a b c h = whole c
binary-stays Div a b c h = whole c
binary-stays Rem a b c h = whole c
binary-stays And a b c h = whole c
binary-stays Or a b c h = whole c
binary-stays Xor a b c h = whole c
binary-stays Xnor a b c h = whole c
binary-stays Shl a b c h = whole c
binary-stays Shr a b c h = whole c
binary-stays Sshr a b c h = whole c
binary-stays Lt a b c h = unsigned-bit c h.wide h.signed
binary-stays Le a b c h = unsigned-bit c h.wide h.signed
binary-stays Gt a b c h = unsigned-bit c h.wide h.signed
binary-stays Ge a b c h = unsigned-bit c h.wide h.signed
binary-stays Eq a b c h = unsigned-bit c h.wide h.signed
binary-stays Ne a b c h = unsigned-bit c h.wide h.signed
binary-stays LogAnd a b c h = unsigned-bit c h.wide h.signed
binary-stays LogOr a b c h = unsigned-bit c h.wide h.signed

-- operands of one width where the operator wants it
pub one_width : (op : BinOp) (a b c : Form) → IsTrue (needs_one_width op) → (left_form op a b c).width ≡ (right_form op a b c).width
one_width Shl a b c h = cc
one_width Shr a b c h = cc
one_width Sshr a b c h = cc
one_width LogAnd a b c h = cc
one_width LogOr a b c h = cc
one_width op a b c h = refl

-- ---- contexts of 1 to 128 bits

pub operand-is : (op : UnOp) (a c : Form) → IsWidth a.width → IsWidth c.width → IsWidth (operand_form op a c).width
operand-is Neg a c p q = q
operand-is Not a c p q = q
operand-is op a c p q = p

pub left-is : (op : BinOp) (a b c : Form) → IsWidth a.width → IsWidth b.width → IsWidth c.width → IsWidth (left_form op a b c).width
left-is Add a b c p q r = r
left-is Sub a b c p q r = r
left-is Mul a b c p q r = r
left-is Div a b c p q r = r
left-is Rem a b c p q r = r
left-is And a b c p q r = r
left-is Or a b c p q r = r
left-is Xor a b c p q r = r
left-is Xnor a b c p q r = r
left-is Shl a b c p q r = r
left-is Shr a b c p q r = r
left-is Sshr a b c p q r = r
left-is LogAnd a b c p q r = p
left-is LogOr a b c p q r = p
left-is op a b c p q r = joined-is a b p q

pub right-is : (op : BinOp) (a b c : Form) → IsWidth a.width → IsWidth b.width → IsWidth c.width → IsWidth (right_form op a b c).width
right-is Shl a b c p q r = q
right-is Shr a b c p q r = q
right-is Sshr a b c p q r = q
right-is LogAnd a b c p q r = q
right-is LogOr a b c p q r = q
right-is op a b c p q r = left-is op a b c p q r
