-- A sized expression is well-formed.
use Rattle.std.proofs.Common.{◌≡◌, ◌≤◌, ◌+◌, ℕ, zero, suc, List, [], ◌∷◌, length, refl, sym, ap, ◌∙◌, arith, subst}
use Rattle.std.specs.Prelude.{slice_get, All}
use Rattle.vl_design.specs.vl_base.specs.declared.bits.UnOp.{UnOp}
use Rattle.vl_design.specs.vl_base.specs.declared.bits.UnOp.TheVariants.{Neg, Not, LogNot, RedAnd, RedOr, RedXor, RedNand, RedNor, RedXnor}
use Rattle.vl_design.specs.vl_base.specs.declared.bits.BinOp.{BinOp}
use Rattle.vl_design.specs.vl_base.specs.declared.bits.BinOp.TheVariants.{Add, Sub, Mul, Div, Rem, And, Or, Xor, Xnor, Shl, Shr, Sshr, Lt, Le, Gt, Ge, Eq, Ne, LogAnd, LogOr}
use Rattle.vl_design.specs.vl_base.specs.Value.{unary_width, binary_width}
use Rattle.vl_design.specs.declared.design.Form.{Form}
use Rattle.vl_design.specs.Syntax.{Exp, Num, Label, Sig, Word, Pick, Slice, Un, Bin, Cond, Cat, Rep, Cast, Call, Time, LastAnswer, Exps, NoExps, MoreExps}
use Rattle.vl_design.specs.Width.{Scope, Names, form, input_widths, operand_form, left_form, right_form, joined, assigned}
use Rattle.vl_design.specs.Sound.{IsSoundExp, AreSound, IsWidth, count_of}
use Rattle.vl_width.specs.IsSized.{IsSized, AreSized, many_of}
use Rattle.vl_width.specs.Sizing.{own, own_parts, own_arguments, read_at, several_at}
use Rattle.vl_width.specs.Room.{HaveInputs}
use Rattle.vl_width.proofs.Forms.{Fits, itself, then-fits, first-joined, second-joined, operand-fits, left-fits, right-fits, unary-stays, binary-stays, one_width, form-is, operand-is, left-is, right-is}
use Rattle.vl_width.proofs.Owning.{takes-widths}
use Rattle.vl_design.specs.Sized.{Sized}
use Rattle.vl_design.specs.Value.{Sample, value}
use Rattle.vl_width.specs.Value.{sized_value}
use Rattle.vl_width.proofs.Keeping.{keeps, widths-same, assigned-fits}
use Rattle.vl_design.proofs.Shared.{one}

unary-is : (op : UnOp) (w : ℕ) → IsWidth w → IsWidth (unary_width op w)
unary-is Neg w h = h
unary-is Not w h = h
unary-is LogNot w h = one
unary-is RedAnd w h = one
unary-is RedOr w h = one
unary-is RedXor w h = one
unary-is RedNand w h = one
unary-is RedNor w h = one
unary-is RedXnor w h = one

binary-is : (op : BinOp) (w : ℕ) → IsWidth w → IsWidth (binary_width op w)
binary-is Add w h = h
binary-is Sub w h = h
binary-is Mul w h = h
binary-is Div w h = h
binary-is Rem w h = h
binary-is And w h = h
binary-is Or w h = h
binary-is Xor w h = h
binary-is Xnor w h = h
binary-is Shl w h = h
binary-is Shr w h = h
binary-is Sshr w h = h
binary-is Lt w h = one
binary-is Le w h = one
binary-is Gt w h = one
binary-is Ge w h = one
binary-is Eq w h = one
binary-is Ne w h = one
binary-is LogAnd w h = one
binary-is LogOr w h = one

assigned-is : (w : ℕ) (f : Form) → IsWidth w → IsWidth f.width → IsWidth (assigned w f).width
assigned-is w f p q = record { wide = omega arith; narrow = omega arith }

many-arguments : (names : Names) (es : Exps) (ws : List ℕ) → count_of es ≡ length ws → many_of (several_at (own_arguments names es ws)) ≡ count_of es
many-arguments names NoExps ws h = refl
many-arguments names (MoreExps e es) [] h = absurd (omega arith)
many-arguments names (MoreExps e es) (w ∷ ws) h = ap (λ n. 1 + n) (many-arguments names es ws (omega arith))

module _ (names : Names) (inputs : HaveInputs names) where
  mutual
    pub sized : (e : Exp) (c : Form) → IsSoundExp names e → IsWidth c.width → Fits (form names e) c → IsSized names (read_at (own names e) c)
    sized (Num v w g) c h k f = (k, h.0, f.wide, h.1)
    sized (Label v care w g) c h k f = (k, h.0, f.wide, (h.1, h.2))
    sized (Sig j) c h k f = (k, form-is names (Sig j) h, f.wide, h)
    sized (Word m a) c h k f = (k, form-is names (Word m a) h, f.wide, (h.0, sized a (form names a) h.1 (form-is names a h.1) (itself (form names a))))
    sized (Pick b i from w) c h k f = (k, h.0, f.wide, (sized b (form names b) h.1 (form-is names b h.1) (itself (form names b)), sized i (form names i) h.2 (form-is names i h.2) (itself (form names i))))
    sized (Slice b low w) c h k f = (k, h.0, f.wide, sized b (form names b) h.1 (form-is names b h.1) (itself (form names b)))
    sized (Un op a) c h k f =
        let fa = form names a in
        let x = operand_form op fa c in
        let w = operand-is op fa c (form-is names a h) k in
        (k, unary-is op x.width w, (unary-stays op fa c f).wide, sized a x h w (operand-fits op fa c f))
    sized (Bin op a b) c h k f =
        let fa = form names a in
        let fb = form names b in
        let l = left-is op fa fb c (form-is names a h.0) (form-is names b h.1) k in
        let r = right-is op fa fb c (form-is names a h.0) (form-is names b h.1) k in (
          k,
          binary-is op (left_form op fa fb c).width l,
          (binary-stays op fa fb c f).wide,
          (one_width op fa fb c, sized a (left_form op fa fb c) h.0 l (left-fits op fa fb c f), sized b (right_form op fa fb c) h.1 r (right-fits op fa fb c f)),
        )
    sized (Cond t a b) c h k f =
        let fa = form names a in
        let fb = form names b in
        (k, k, omega arith, (refl, sized t (form names t) h.0 (form-is names t h.0) (itself (form names t)), sized a c h.1 k (then-fits fa (joined fa fb) c (first-joined fa fb) f), sized b c h.2 k (then-fits fb (joined fa fb) c (second-joined fa fb) f)))
    sized (Cat es) c h k f = let w = widths-same names es in (k, rw w h.0, rw w f.wide, parts es h.1)
    sized (Rep n es) c h k f = let w = widths-same names es in (k, rw w h.0, rw w f.wide, parts es h.1)
    sized (Cast g a) c h k f = (k, form-is names a h, f.wide, sized a (form names a) h (form-is names a h) (itself (form names a)))
    sized (Call j es) c h k f =
        let ws = input_widths names j in
        let n = takes-widths names (slice_get names.funs j) (count_of es) h.0 in
        (k, h.1, f.wide, (rw (many-arguments names es ws n) h.0, given es ws h.2 (inputs j)))
    sized Time c h k f = (k, record { wide = omega arith; narrow = omega arith }, f.wide, tt)
    sized LastAnswer c h k f = (k, record { wide = omega arith; narrow = omega arith }, f.wide, tt)

    parts : (es : Exps) → AreSound names es → AreSized names (several_at (own_parts names es))
    parts NoExps h = tt
    parts (MoreExps e es) h = (sized e (form names e) h.0 (form-is names e h.0) (itself (form names e)), parts es h.1)

    given : (es : Exps) (ws : List ℕ) → AreSound names es → All IsWidth ws → AreSized names (several_at (own_arguments names es ws))
    given NoExps ws h a = tt
    given (MoreExps e es) [] h a = tt
    given (MoreExps e es) (w ∷ ws) h a =
        let x = assigned w (form names e) in
        (sized e x h.0 (assigned-is w (form names e) (a zero zero (omega arith)) (form-is names e h.0)) (assigned-fits w (form names e)), given es ws h.1 (λ i d l. a (suc i) d (omega arith)))

-- what a sized tree that is the expression's in the context has
pub well : (names : Names) → HaveInputs names → (e : Exp) (c : Form) (y : Sized) → IsSoundExp names e → IsWidth c.width → Fits (form names e) c → y ≡ read_at (own names e) c → IsSized names y
well names inputs e c y h k f is = subst (IsSized names) (sym is) (sized names inputs e c h k f)

pub kept : (names : Names) (e : Exp) (c : Form) (y : Sized) → IsSoundExp names e → Fits (form names e) c → y ≡ read_at (own names e) c
    → (scope : Scope) (s : Sample) → scope.names ≡ names → sized_value scope s y ≡ value scope s e c
kept names e c y h f is scope s n =
    let m = sym n in
    let h' = subst (λ names. IsSoundExp names e) m h in
    let f' = subst (λ names. Fits (form names e) c) m f in
    let is' = subst (λ names. y ≡ read_at (own names e) c) m is in
    ap (sized_value scope s) is' ∙ keeps scope s e c h' f'

pub assigned-wide : (w : ℕ) (f : Form) → w ≤ 128 → IsWidth f.width → IsWidth (assigned w f).width
assigned-wide w f p q = record { wide = omega arith; narrow = omega arith }
