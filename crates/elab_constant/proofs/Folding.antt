-- The form and the value of a constant are those of its expression in the design.
use Rattle.std.proofs.Common.{◌≡◌, refl, sym, ap, ◌∙◌, ℕ, Bool, true, false, ◌&&◌, List, ◌*◌, max, length}
use Rattle.std.specs.Prelude.{IsTrue, Option, Some, None, if◌then◌else◌, ◌==◌}
use Rattle.vl_base.specs.declared.place.Place.{Place}
use Rattle.vl_base.specs.declared.bits.UnOp.{UnOp}
use Rattle.vl_base.specs.declared.bits.BinOp.{BinOp}
use Rattle.vl_base.specs.Value.{resized, unary_value, binary_value}
use Rattle.vl_design.specs.declared.design.Form.{Form}
use Rattle.vl_design.specs.Width as w
use Rattle.vl_design.specs.Value.{value}
use Rattle.elab_plain.specs.vl_flat.specs.declared.binding.Binding.{Binding}
use Rattle.elab_plain.specs.vl_flat.specs.declared.binding.Binding.TheVariants.{Constant, Signal, Function}
use Rattle.elab_plain.specs.vl_flat.specs.Surface.{Ex, Number, Text, Named, Paren, Unary, Binary, Choice, Joined, Repeated, Called, System, NoSelects, Index, Range}
use Rattle.vl_design.specs.Placed as p
use Rattle.vl_design.specs.Plainly as plain
use Rattle.elab_plain.specs.vl_flat.specs.Scopes.{Scope}
use Rattle.elab_plain.specs.vl_flat.specs.Constants.{closed, nothing, constant_form, constant_value}
use Rattle.elab_plain.specs.vl_flat.specs.Expressions.{is_constant, is_parameter, is_long, whole, operand, marked, unary_of, operation, text_form, exp, marked_form as form_marked}
use Rattle.elab_constant.specs.Folded.{known_form, known_value, folded_form, folded, mark_context, mark_value}

first-true : (a b : Bool) → IsTrue (a && b) → IsTrue a
first-true true b h = refl
first-true false b h = cc

second-true : (a b : Bool) → IsTrue (a && b) → IsTrue b
second-true true b h = h
second-true false b h = cc

text-go : (b : Bool) (n : ℕ) → w.unsigned (if b then w.unsigned 1 else w.unsigned n).width ≡ (if b then w.unsigned 1 else w.unsigned n)
text-go true n = refl
text-go false n = refl

text-form : (at : Place) (t : List ℕ) → constant_form (operand at t) ≡ text_form t
text-form at t = text-go (is_long t) (8 * max 1 (length t))

named-form : (at : Place) (b : Option Binding) → IsTrue (is_parameter b) → constant_form (whole at b) ≡ known_form b
named-form at None h = cc
named-form at (Some (Constant c)) h = refl
named-form at (Some (Signal k s)) h = cc
named-form at (Some (Function k f)) h = cc

named-value : (at : Place) (b : Option Binding) (c : Form) → IsTrue (is_parameter b) → value closed nothing (plain.exp (whole at b)) c ≡ resized c.signed (known_form b).width c.width (known_value b)
named-value at None c h = cc
named-value at (Some (Constant v)) c h = refl
named-value at (Some (Signal k s)) c h = cc
named-value at (Some (Function k f)) c h = cc

marked-form : (at : Place) (o : Option UnOp) (a : p.Exp) (f : Form) → constant_form a ≡ f → constant_form (marked at o a) ≡ form_marked o f
marked-form at None a f h = h
marked-form at (Some op) a f h = ap (w.unary_form op) h

pub folded-form : (s : Scope) (e : Ex) → IsTrue (is_constant s.names e) → constant_form (exp s e) ≡ folded_form s.names e
folded-form s (Number at n) h = refl
folded-form s (Text at t) h = text-form at t
folded-form s (Named at name NoSelects) h = named-form at (s.names name) h
folded-form s (Named at name (Index q i others)) h = cc
folded-form s (Named at name (Range q mark l r others)) h = cc
folded-form s (Paren at a) h = folded-form s a h
folded-form s (Unary at op a) h = marked-form at (unary_of op) (exp s a) (folded_form s.names a) (folded-form s a h)
folded-form s (Binary at op a b) h =
    ap (λ z. w.binary_form (operation op) z (constant_form (exp s b))) (folded-form s a (first-true _ _ h))
    ∙ ap (w.binary_form (operation op) (folded_form s.names a)) (folded-form s b (second-true _ _ h))
folded-form s (Choice at t a b) h =
    let k = second-true _ _ h in
    ap (λ z. w.joined z (constant_form (exp s b))) (folded-form s a (first-true _ _ k))
    ∙ ap (w.joined (folded_form s.names a)) (folded-form s b (second-true _ _ k))
folded-form s (Joined at es) h = cc
folded-form s (Repeated at n es) h = cc
folded-form s (Called at name es) h = cc
folded-form s (System at name given) h = cc

marked-value : (at : Place) (o : Option UnOp) (a : p.Exp) (f c : Form) (v : Form → ℕ) → constant_form a ≡ f → ((c : Form) → value closed nothing (plain.exp a) c ≡ v c)
    → value closed nothing (plain.exp (marked at o a)) c ≡ mark_value o (mark_context o f c).width (v (mark_context o f c))
marked-value at None a f c v h k = k c
marked-value at (Some op) a f c v h k =
    ap (λ z. unary_value op (w.operand_form op z c).width (value closed nothing (plain.exp a) (w.operand_form op z c))) h
    ∙ ap (unary_value op (w.operand_form op f c).width) (k (w.operand_form op f c))

binary-value : (op : BinOp) (a b : p.Exp) (f g c : Form) (u v : Form → ℕ) → constant_form a ≡ f → constant_form b ≡ g → ((c : Form) → value closed nothing (plain.exp a) c ≡ u c) → ((c : Form) → value closed nothing (plain.exp b) c ≡ v c)
    → binary_value op (w.left_form op (constant_form a) (constant_form b) c).signed (w.left_form op (constant_form a) (constant_form b) c).width
    (value closed nothing (plain.exp a) (w.left_form op (constant_form a) (constant_form b) c)) (value closed nothing (plain.exp b) (w.right_form op (constant_form a) (constant_form b) c))
    ≡ binary_value op (w.left_form op f g c).signed (w.left_form op f g c).width (u (w.left_form op f g c)) (v (w.right_form op f g c))
binary-value op a b f g c u v h k i j =
    let at : Form → Form → ℕ = λ y z. binary_value op (w.left_form op y z c).signed (w.left_form op y z c).width (value closed nothing (plain.exp a) (w.left_form op y z c)) (value closed nothing (plain.exp b) (w.right_form op y z c)) in
    ap (λ z. at z (constant_form b)) h
    ∙ (ap (at f) k
    ∙ (ap (λ z. binary_value op (w.left_form op f g c).signed (w.left_form op f g c).width z (value closed nothing (plain.exp b) (w.right_form op f g c))) (i (w.left_form op f g c))
    ∙ ap (binary_value op (w.left_form op f g c).signed (w.left_form op f g c).width (u (w.left_form op f g c))) (j (w.right_form op f g c))))

choice-value : (t t' a a' b b' : ℕ) → t ≡ t' → a ≡ a' → b ≡ b' → (if t == 0 then b else a) ≡ (if t' == 0 then b' else a')
choice-value t t' a a' b b' h k i = ap (λ z. if z == 0 then b else a) h ∙ (ap (λ z. if t' == 0 then z else a) i ∙ ap (λ z. if t' == 0 then b' else z) k)

pub folded-value : (s : Scope) (e : Ex) (c : Form) → IsTrue (is_constant s.names e) → value closed nothing (plain.exp (exp s e)) c ≡ folded s.names e c
folded-value s (Number at n) c h = refl
folded-value s (Text at t) c h = refl
folded-value s (Named at name NoSelects) c h = named-value at (s.names name) c h
folded-value s (Named at name (Index q i others)) c h = cc
folded-value s (Named at name (Range q mark l r others)) c h = cc
folded-value s (Paren at a) c h = folded-value s a c h
folded-value s (Unary at op a) c h =
    marked-value at (unary_of op) (exp s a) (folded_form s.names a) c (folded s.names a) (folded-form s a h) (λ d. folded-value s a d h)
folded-value s (Binary at op a b) c h =
    binary-value (operation op) (exp s a) (exp s b) (folded_form s.names a) (folded_form s.names b) c (folded s.names a) (folded s.names b)
    (folded-form s a (first-true _ _ h)) (folded-form s b (second-true _ _ h)) (λ d. folded-value s a d (first-true _ _ h)) (λ d. folded-value s b d (second-true _ _ h))
folded-value s (Choice at t a b) c h =
    let k = second-true _ _ h in
    choice-value _ _ _ _ _ _
    (ap (value closed nothing (plain.exp (exp s t))) (folded-form s t (first-true _ _ h)) ∙ folded-value s t (folded_form s.names t) (first-true _ _ h))
    (folded-value s a c (first-true _ _ k)) (folded-value s b c (second-true _ _ k))
folded-value s (Joined at es) c h = cc
folded-value s (Repeated at n es) c h = cc
folded-value s (Called at name es) c h = cc
folded-value s (System at name given) c h = cc

-- a constant read for itself
pub own-form : (s : Scope) (e : Ex) → IsTrue (is_constant s.names e) → folded_form s.names e ≡ constant_form (exp s e)
own-form s e h = sym (folded-form s e h)

pub own-value : (s : Scope) (e : Ex) → IsTrue (is_constant s.names e) → folded s.names e (folded_form s.names e) ≡ constant_value (exp s e)
own-value s e h = sym (ap (value closed nothing (plain.exp (exp s e))) (folded-form s e h) ∙ folded-value s e (folded_form s.names e) h)
