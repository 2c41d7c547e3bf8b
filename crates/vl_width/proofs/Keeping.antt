-- A sized expression has the value of the expression in its context.
use Rattle.std.proofs.Common.{◌≡◌, ◌<◌, ◌≤◌, ◌+◌, ◌*◌, ◌^◌, ℕ, zero, suc, Bool, true, false, List, [], ◌∷◌, refl, sym, ap, ◌∙◌, arith, suc-mul}
use Rattle.std.specs.Prelude.{if◌then◌else◌, ℤ, pos, negsuc}
use Rattle.std.proofs.Math.Nat.{mod-eq_of_lt}
use Rattle.std.proofs.Math.Pow.{pow_mono, pow_pos}
use Rattle.std.proofs.lemmas.Nat.{mod_below}
use Rattle.vl_design.specs.vl_base.specs.Value.{reading, resized, unary_value, unary_width, binary_value, binary_width}
use Rattle.vl_design.specs.vl_base.specs.Selects.{picked}
use Rattle.vl_design.specs.vl_base.proofs.Congruent.{wrapped-below}
use Rattle.vl_design.specs.vl_base.proofs.Readings.{wrapped-reading}
use Rattle.vl_design.specs.vl_base.proofs.Bounds.{unary-below, binary-below}
use Rattle.vl_design.specs.vl_base.proofs.Parts.{joined-below}
use Rattle.vl_design.specs.declared.design.Form.{Form}
use Rattle.vl_design.specs.Syntax.{Exp, Num, Label, Sig, Word, Pick, Slice, Un, Bin, Cond, Cat, Rep, Cast, Call, Time, LastAnswer, Exps, NoExps, MoreExps}
use Rattle.vl_design.specs.Sized.{Sized, At, Several, NoneSized, MoreSized}
use Rattle.vl_design.specs.Width.{Scope, Names, form, total_width, result_form, input_widths, operand_form, left_form, right_form, joined, assigned}
use Rattle.vl_design.specs.Value as v
use Rattle.vl_design.specs.Value.{Sample, value, word_at, words_of, lowest_bit, repeated}
use Rattle.vl_design.specs.Sound.{IsSoundExp, AreSound}
use Rattle.vl_width.specs.Widths.{width_of, widths_of, node_width}
use Rattle.vl_width.specs.Value.{sized_value, node_value, side_by_side, arguments}
use Rattle.vl_width.specs.Sizing.{own, own_parts, own_arguments, read_at, several_at}
use Rattle.vl_width.proofs.Forms.{Fits, Stays, itself, then-fits, first-joined, second-joined, operand-fits, left-fits, right-fits, unary-stays, binary-stays, one_width, unsigned-stays, whole-stays}
use Rattle.vl_design.specs.vl_base.proofs.Shared.{picked-below}
use Rattle.vl_design.proofs.Shared.{repeated-below}

-- a value that stays in its context
unchanged : (w v : ℕ) (c : Form) → v < 2 ^ w → Stays w c → resized c.signed w c.width v ≡ v
unchanged w v c h s = at c.signed refl
  where
    mono : 2 ^ w ≤ 2 ^ c.width
    mono = pow_mono s.wide

    at : (b : Bool) → c.signed ≡ b → resized b w c.width v ≡ v
    at true e = rw (sym (s.signed e)) (wrapped-reading true w v h)
    at false e = let l : v < 2 ^ c.width = omega (arith, mono) in mod-eq_of_lt l

-- what stands at a width is below 2 to it
sized-below : (scope : Scope) (s : Sample) (x : Sized) → sized_value scope s x < 2 ^ width_of x
sized-below scope s (At w g n) = wrapped-below w (reading g (node_width scope.names n) (node_value scope s n))

side-below : (scope : Scope) (s : Sample) (xs : Several) → side_by_side scope s xs < 2 ^ widths_of xs
side-below scope s NoneSized = omega arith
side-below scope s (MoreSized x xs) = joined-below (sized_value scope s x) (side_by_side scope s xs) (width_of x) (widths_of xs) (sized-below scope s x) (side-below scope s xs)

if-below : (b : Bool) (x y m : ℕ) → x < m → y < m → (if b then x else y) < m
if-below true x y m h k = h
if-below false x y m h k = k

pub widths-same : (names : Names) (es : Exps) → widths_of (several_at (own_parts names es)) ≡ total_width names es
widths-same names NoExps = refl
widths-same names (MoreExps e es) = ap (λ n. (form names e).width + n) (widths-same names es)

pub assigned-fits : (w : ℕ) (f : Form) → Fits f (assigned w f)
assigned-fits w f = record { wide = omega arith; signed = λ h. h }

module _ (scope : Scope) (s : Sample) where
  mutual
    pub keeps : (e : Exp) (c : Form) → IsSoundExp scope.names e → Fits (form scope.names e) c → sized_value scope s (read_at (own scope.names e) c) ≡ value scope s e c
    keeps (Num v w g) c h f = refl
    keeps (Label v care w g) c h f = refl
    keeps (Sig k) c h f = refl
    keeps (Word m a) c h f = rw (keeps a (form scope.names a) h.1 (itself (form scope.names a))) refl
    keeps (Pick b i from w) c h f =
        let p = keeps b (form scope.names b) h.1 (itself (form scope.names b)) in
        let q = keeps i (form scope.names i) h.2 (itself (form scope.names i)) in
        unchanged w _ c (picked-below _ _ _ w) (unsigned-stays w c f.wide f.signed) ∙ rw (p, q) refl
    keeps (Slice b low w) c h f =
        let p = keeps b (form scope.names b) h.1 (itself (form scope.names b)) in
        unchanged w _ c (picked-below _ _ _ w) (unsigned-stays w c f.wide f.signed) ∙ rw p refl
    keeps (Un op a) c h f =
        let x = operand_form op (form scope.names a) c in
        let p = keeps a x h (operand-fits op (form scope.names a) c f) in
        unchanged (unary_width op x.width) _ c (unary-below op x.width _) (unary-stays op (form scope.names a) c f) ∙ ap (unary_value op x.width) p
    keeps (Bin op a b) c h f =
        let fa = form scope.names a in
        let fb = form scope.names b in
        let l = left_form op fa fb c in
        let r = right_form op fa fb c in
        let p = keeps a l h.0 (left-fits op fa fb c f) in
        let q = keeps b r h.1 (right-fits op fa fb c f) in
        let sa = sized-below scope s (read_at (own scope.names a) l) in
        let sb = sized-below scope s (read_at (own scope.names b) r) in
        unchanged (binary_width op l.width) _ c (binary-below op l.signed l.width _ _ sa (λ n. rw (one_width op fa fb c n) sb)) (binary-stays op fa fb c f)
        ∙ (ap (λ x. binary_value op l.signed l.width x (sized_value scope s (read_at (own scope.names b) r))) p ∙ ap (binary_value op l.signed l.width (value scope s a l)) q)
    keeps (Cond t a b) c h f =
        let fa = form scope.names a in
        let fb = form scope.names b in
        let p = keeps t (form scope.names t) h.0 (itself (form scope.names t)) in
        let q = keeps a c h.1 (then-fits fa (joined fa fb) c (first-joined fa fb) f) in
        let r = keeps b c h.2 (then-fits fb (joined fa fb) c (second-joined fa fb) f) in
        unchanged c.width _ c (if-below _ _ _ (2 ^ c.width) (sized-below scope s (read_at (own scope.names b) c)) (sized-below scope s (read_at (own scope.names a) c))) (whole-stays c) ∙ rw (p, q, r) refl
    keeps (Cat es) c h f =
        let p = sides es h.1 in
        let w = widths-same scope.names es in
        let l = side-below scope s (several_at (own_parts scope.names es)) in
        rw w (unchanged (total_width scope.names es) _ c (rw w at l) (unsigned-stays (total_width scope.names es) c f.wide f.signed) ∙ p)
    keeps (Rep n es) c h f =
        let p = sides es h.1 in
        let w = widths-same scope.names es in
        let l = side-below scope s (several_at (own_parts scope.names es)) in
        let t = total_width scope.names es in
        rw w (unchanged (n * t) _ c (repeated-below n t _ (rw w at l)) (unsigned-stays (n * t) c f.wide f.signed) ∙ ap (repeated n t) p)
    keeps (Cast g a) c h f = rw (keeps a (form scope.names a) h (itself (form scope.names a))) refl
    keeps (Call k es) c h f = ap (λ vs. resized c.signed (result_form scope.names k).width c.width (scope.call k vs)) (inputs es (input_widths scope.names k) h.2)
    keeps Time c h f = unchanged 64 _ c (mod_below s.time (2 ^ 64) (pow_pos 64)) (unsigned-stays 64 c f.wide f.signed)
    keeps LastAnswer c h f = refl

    sides : (es : Exps) → AreSound scope.names es → side_by_side scope s (several_at (own_parts scope.names es)) ≡ v.side_by_side scope s es
    sides NoExps h = refl
    sides (MoreExps e es) h = rw (keeps e (form scope.names e) h.0 (itself (form scope.names e)), sides es h.1, widths-same scope.names es) refl

    inputs : (es : Exps) (ws : List ℕ) → AreSound scope.names es → arguments scope s (several_at (own_arguments scope.names es ws)) ws ≡ v.arguments scope s es ws
    inputs NoExps ws h = refl
    inputs (MoreExps e es) [] h = refl
    inputs (MoreExps e es) (w ∷ ws) h = rw (keeps e (assigned w (form scope.names e)) h.0 (assigned-fits w (form scope.names e)), inputs es ws h.1) refl
