-- Cells of expressions that are read in a context.
use Rattle.std.proofs.Common.{◌≡◌, ◌≤◌, ◌+◌, ◌*◌, ℕ, Bool, true, false, refl, sym, ap, arith, subst}
use Rattle.std.specs.Prelude.{max, nat_le, ◌==◌, if◌then◌else◌}
use Rattle.vl_base.specs.declared.bits.UnOp.{UnOp}
use Rattle.vl_base.specs.declared.bits.UnOp.TheVariants.{Neg, Not, LogNot, RedAnd, RedOr, RedXor, RedNand, RedNor, RedXnor}
use Rattle.vl_base.specs.declared.bits.BinOp.{BinOp}
use Rattle.vl_base.specs.declared.bits.BinOp.TheVariants.{Add, Sub, Mul, Div, Rem, And, Or, Xor, Xnor, Shl, Shr, Sshr, Lt, Le, Gt, Ge, Eq, Ne, LogAnd, LogOr}
use Rattle.vl_base.specs.Value.{needs_one_width, unary_width, binary_width}
use Rattle.vl_design.specs.declared.design.Form.{Form}
use Rattle.vl_design.specs.Syntax.{Exp, Num, Label, Sig, Word, Pick, Slice, Un, Bin, Cond, Cat, Rep, Cast, Call, Time, LastAnswer, Exps, NoExps, MoreExps, Items, NoItems, Labelled, Default}
use Rattle.vl_design.specs.Exec.{items_form}
use Rattle.vl_design.specs.Width.{Names, form, total_width, operand_form, left_form, right_form}
use Rattle.cell_expr.specs.Counts.{unary_spans, binary_spans, pair_count, own_count, exp_count, wide_count, in_count, is_plain, subject_count, label_count, parts_own, parts_wide}
use Rattle.cell_emit.specs.Counts.{resizes, copied}
use Rattle.cell_emit.specs.Differs.{differing_count}
use Rattle.cell_expr.specs.Compiled.{is_cast}
use Rattle.cell_expr.specs.Labels.{care_in}
use Rattle.vl_base.proofs.Numbers.{equal_self as same-width}

-- ---- the counts in order

spanned : (q : Bool) (x u : ℕ) → x ≤ u → x + 1 ≤ (if q then u else x + 1) + 1
spanned true x u h = omega arith
spanned false x u h = omega arith

paired : (x u y v : ℕ) → x ≤ u → y ≤ v → pair_count x u y v ≤ u + v
paired x u y v h k = omega arith

operated : (q r : Bool) (x u y v : ℕ) → x ≤ u → y ≤ v →
    (if q then pair_count x u y v else x + y) + 1 ≤ (if r then u + (if q then v else y) + 1 else (if q then pair_count x u y v else x + y) + 1 + 1)
operated true true x u y v h k = (let z = paired x u y v h k in omega arith)
operated true false x u y v h k = omega arith
operated false true x u y v h k = omega arith
operated false false x u y v h k = omega arith

pub own-most : (body : ℕ → ℕ) (e : Exp) → own_count body e ≤ exp_count body e
own-most body (Num v w s) = omega arith
own-most body (Label v care w s) = omega arith
own-most body (Sig k) = omega arith
own-most body (Word m a) = omega arith
own-most body (Pick b i from w) = omega arith
own-most body (Slice b low w) = omega arith
own-most body (Un op a) = spanned (unary_spans op) (own_count body a) (exp_count body a) (own-most body a)
own-most body (Bin op a b) = operated (needs_one_width op) (binary_spans op) (own_count body a) (exp_count body a) (own_count body b) (exp_count body b) (own-most body a) (own-most body b)
own-most body (Cond t a b) = (let z = paired (own_count body a) (exp_count body a) (own_count body b) (exp_count body b) (own-most body a) (own-most body b) in omega arith)
own-most body (Cat es) = omega arith
own-most body (Rep n es) = omega arith
own-most body (Cast s a) = omega arith
own-most body (Call f es) = omega arith
own-most body Time = omega arith
own-most body LastAnswer = omega arith

own-wide : (body : ℕ → ℕ) (e : Exp) → own_count body e ≤ wide_count body e
own-wide body (Num v w s) = omega arith
own-wide body (Label v care w s) = omega arith
own-wide body (Sig k) = omega arith
own-wide body (Word m a) = omega arith
own-wide body (Pick b i from w) = omega arith
own-wide body (Slice b low w) = omega arith
own-wide body (Un op a) = omega arith
own-wide body (Bin op a b) = omega arith
own-wide body (Cond t a b) = omega arith
own-wide body (Cat es) = omega arith
own-wide body (Rep n es) = omega arith
own-wide body (Cast s a) = own-wide body a
own-wide body (Call f es) = omega arith
own-wide body Time = omega arith
own-wide body LastAnswer = omega arith

pub parts-wide : (body : ℕ → ℕ) (es : Exps) → parts_own body es ≤ parts_wide body es
parts-wide body NoExps = omega arith
parts-wide body (MoreExps e es) = (let z = own-wide body e in omega arith)

-- ---- widths

-- ---- in a context

module _ (names : Names) (body : ℕ → ℕ) where
  pub in-own : (e : Exp) (w : ℕ) → (form names e).width ≡ w → in_count names body w e ≡ own_count body e
  in-own e w h = rw (sym h) (let q : ((form names e).width == (form names e).width) ≡ true = same-width (form names e).width in rw q refl)

  pub in-most : (e : Exp) (w : ℕ) → in_count names body w e ≤ exp_count body e
  in-most e w = go ((form names e).width == w)
    where
      go : (q : Bool) → (if q then own_count body e else exp_count body e) ≤ exp_count body e
      go true = own-most body e
      go false = omega arith

  -- a node that is computed at its own width
  pub node-few : (n w width : ℕ) → n + (1 + resizes w width) ≤ (if w == width then n + 1 else n + 2)
  node-few n w width = go (w == width)
    where
      go : (q : Bool) → n + (1 + (if q then 0 else 1)) ≤ (if q then n + 1 else n + 2)
      go true = omega arith
      go false = omega arith

  no-resize : (w : ℕ) → resizes w w ≡ 0
  no-resize w = let q = same-width w in rw q refl

  -- two operands in the longer width of both
  pair-few : (a b : Exp) (w : ℕ) → max (form names a).width (form names b).width ≡ w →
      in_count names body w a + in_count names body w b ≤ pair_count (own_count body a) (exp_count body a) (own_count body b) (exp_count body b)
  pair-few a b w h = first (nat_le (form names b).width (form names a).width) refl
    where
      first : (q : Bool) → nat_le (form names b).width (form names a).width ≡ q → in_count names body w a + in_count names body w b ≤ max (own_count body a + exp_count body b) (exp_count body a + own_count body b)
      first true e = (let i = in-own a w (grind arith) in let j = in-most b w in omega arith)
      first false e = (let i = in-own b w (grind arith) in let j = in-most a w in omega arith)

  unary-one : (a : Exp) (w : ℕ) → in_count names body (form names a).width a + (1 + resizes 1 w) ≤ (if 1 == w then own_count body a + 1 else own_count body a + 1 + 1)
  unary-one a w = (let i = in-own a (form names a).width refl in let z = node-few (own_count body a) 1 w in grind arith)

  unary-spans : (a : Exp) (w : ℕ) → in_count names body w a + (1 + resizes w w) ≤ (if (form names a).width == w then own_count body a + 1 else exp_count body a + 1)
  unary-spans a w = (let z = no-resize w in go ((form names a).width == w) z)
    where
      go : (q : Bool) → resizes w w ≡ 0 → (if q then own_count body a else exp_count body a) + (1 + resizes w w) ≤ (if q then own_count body a + 1 else exp_count body a + 1)
      go true z = omega arith
      go false z = omega arith

  pub unary-few : (op : UnOp) (a : Exp) (c f : Form) → f ≡ operand_form op (form names a) c → in_count names body f.width a + (1 + resizes (unary_width op f.width) c.width) ≤ in_count names body c.width (Un op a)
  unary-few op a c f e = subst (λ (z : Form). in_count names body z.width a + (1 + resizes (unary_width op z.width) c.width) ≤ in_count names body c.width (Un op a)) (sym e) (go op)
    where
      go : (o : UnOp) → in_count names body (operand_form o (form names a) c).width a + (1 + resizes (unary_width o (operand_form o (form names a) c).width) c.width) ≤ in_count names body c.width (Un o a)
      go Neg = unary-spans a c.width
      go Not = unary-spans a c.width
      go LogNot = unary-one a c.width
      go RedAnd = unary-one a c.width
      go RedOr = unary-one a c.width
      go RedXor = unary-one a c.width
      go RedNand = unary-one a c.width
      go RedNor = unary-one a c.width
      go RedXnor = unary-one a c.width

  arithmetic : (a b : Exp) (w : ℕ) → in_count names body w a + in_count names body w b + (1 + resizes w w) ≤
      (if max (form names a).width (form names b).width == w then pair_count (own_count body a) (exp_count body a) (own_count body b) (exp_count body b) + 1 else exp_count body a + exp_count body b + 1)
  arithmetic a b w = (let z = no-resize w in go z (max (form names a).width (form names b).width == w) refl)
    where
      go : resizes w w ≡ 0 → (q : Bool) → (max (form names a).width (form names b).width == w) ≡ q → in_count names body w a + in_count names body w b + (1 + resizes w w) ≤
          (if q then pair_count (own_count body a) (exp_count body a) (own_count body b) (exp_count body b) + 1 else exp_count body a + exp_count body b + 1)
      go z true e = (let p = pair-few a b w (grind arith) in omega arith)
      go z false e = (let i = in-most a w in let j = in-most b w in omega arith)

  shift : (a b : Exp) (w : ℕ) → in_count names body w a + in_count names body (form names b).width b + (1 + resizes w w) ≤
      (if (form names a).width == w then own_count body a + own_count body b + 1 else exp_count body a + own_count body b + 1)
  shift a b w = (let z = no-resize w in let i = in-own b (form names b).width refl in go z i ((form names a).width == w))
    where
      go : resizes w w ≡ 0 → in_count names body (form names b).width b ≡ own_count body b → (q : Bool) →
          (if q then own_count body a else exp_count body a) + in_count names body (form names b).width b + (1 + resizes w w) ≤ (if q then own_count body a + own_count body b + 1 else exp_count body a + own_count body b + 1)
      go z i true = omega arith
      go z i false = omega arith

  comparison : (a b : Exp) (w : ℕ) (u : ℕ) → u ≡ max (form names a).width (form names b).width → in_count names body u a + in_count names body u b + (1 + resizes 1 w) ≤
      (if 1 == w then pair_count (own_count body a) (exp_count body a) (own_count body b) (exp_count body b) + 1 else pair_count (own_count body a) (exp_count body a) (own_count body b) (exp_count body b) + 1 + 1)
  comparison a b w u h =
      let p = pair-few a b u (sym h) in
      let z = node-few (pair_count (own_count body a) (exp_count body a) (own_count body b) (exp_count body b)) 1 w in grind arith

  logical : (a b : Exp) (w : ℕ) → in_count names body (form names a).width a + in_count names body (form names b).width b + (1 + resizes 1 w) ≤
      (if 1 == w then own_count body a + own_count body b + 1 else own_count body a + own_count body b + 1 + 1)
  logical a b w =
      let i = in-own a (form names a).width refl in let j = in-own b (form names b).width refl in
      let z = node-few (own_count body a + own_count body b) 1 w in grind arith

  pub binary-few : (op : BinOp) (a b : Exp) (c f h : Form) → f ≡ left_form op (form names a) (form names b) c → h ≡ right_form op (form names a) (form names b) c →
      in_count names body f.width a + in_count names body h.width b + (1 + resizes (binary_width op f.width) c.width) ≤ in_count names body c.width (Bin op a b)
  binary-few op a b c f h e k =
      subst (λ (z : Form). in_count names body z.width a + in_count names body h.width b + (1 + resizes (binary_width op z.width) c.width) ≤ in_count names body c.width (Bin op a b)) (sym e)
      (subst (λ (z : Form). in_count names body (left_form op (form names a) (form names b) c).width a + in_count names body z.width b + (1 + resizes (binary_width op (left_form op (form names a) (form names b) c).width) c.width) ≤ in_count names body c.width (Bin op a b)) (sym k) (go op))
    where
      go : (o : BinOp) → in_count names body (left_form o (form names a) (form names b) c).width a + in_count names body (right_form o (form names a) (form names b) c).width b
          + (1 + resizes (binary_width o (left_form o (form names a) (form names b) c).width) c.width) ≤ in_count names body c.width (Bin o a b)
      go Add = arithmetic a b c.width
      go Sub = arithmetic a b c.width
      go Mul = arithmetic a b c.width
      go Div = arithmetic a b c.width
      go Rem = arithmetic a b c.width
      go And = arithmetic a b c.width
      go Or = arithmetic a b c.width
      go Xor = arithmetic a b c.width
      go Xnor = arithmetic a b c.width
      go Shl = shift a b c.width
      go Shr = shift a b c.width
      go Sshr = shift a b c.width
      go Lt = comparison a b c.width _ refl
      go Le = comparison a b c.width _ refl
      go Gt = comparison a b c.width _ refl
      go Ge = comparison a b c.width _ refl
      go Eq = comparison a b c.width _ refl
      go Ne = comparison a b c.width _ refl
      go LogAnd = logical a b c.width
      go LogOr = logical a b c.width

  pub choice-few : (t a b : Exp) (w : ℕ) → in_count names body (form names t).width t + in_count names body w a + in_count names body w b + 1 ≤ in_count names body w (Cond t a b)
  choice-few t a b w = (let i = in-own t (form names t).width refl in go i (max (form names a).width (form names b).width == w) refl)
    where
      go : in_count names body (form names t).width t ≡ own_count body t → (q : Bool) → (max (form names a).width (form names b).width == w) ≡ q → in_count names body (form names t).width t + in_count names body w a + in_count names body w b + 1 ≤
          (if q then own_count body t + pair_count (own_count body a) (exp_count body a) (own_count body b) (exp_count body b) + 1 else own_count body t + exp_count body a + exp_count body b + 1)
      go i true e = (let p = pair-few a b w (grind arith) in omega arith)
      go i false e = (let x = in-most a w in let y = in-most b w in omega arith)

  pub cat-few : (n w width : ℕ) → n + resizes w width ≤ (if w == width then n else n + 1)
  cat-few n w width = go (w == width)
    where
      go : (q : Bool) → n + (if q then 0 else 1) ≤ (if q then n else n + 1)
      go true = omega arith
      go false = omega arith

  -- copies of one bit, or at most two
  pub rep-few : (n : ℕ) (es : Exps) (w : ℕ) → parts_own body es + (copied n + resizes (n * total_width names es) w) ≤ in_count names body w (Rep n es)
  rep-few n es w = (let z = parts-wide body es in go z (nat_le n 1) (n * total_width names es == w))
    where
      go : parts_own body es ≤ parts_wide body es → (p q : Bool) → parts_own body es + ((if p then 0 else 1) + (if q then 0 else 1)) ≤ (if q then parts_wide body es + 2 else parts_wide body es + 2)
      go z true true = omega arith
      go z true false = omega arith
      go z false true = omega arith
      go z false false = omega arith

  -- more copies
  pub rep-many : (n : ℕ) (es : Exps) (w : ℕ) → parts_wide body es + 2 ≤ in_count names body w (Rep n es)
  rep-many n es w = go (n * total_width names es == w)
    where
      go : (q : Bool) → parts_wide body es + 2 ≤ (if q then parts_wide body es + 2 else parts_wide body es + 2)
      go true = omega arith
      go false = omega arith

  -- a leaf
  pub leaf-few : (q : Bool) (n : ℕ) → 1 ≤ n → 1 ≤ (if q then n else n)
  leaf-few true n h = h
  leaf-few false n h = h

  pub call-few : (q : Bool) (k n : ℕ) → k ≤ n → k ≤ (if q then n else n)
  call-few true k n h = h
  call-few false k n h = h

  -- what is extended behind itself
  pub wide-other : (e : Exp) → is_plain e ≡ false → is_cast e ≡ false → own_count body e + 1 ≤ wide_count body e
  wide-other (Num v w s) h q = absurd (grind arith)
  wide-other (Label v care w s) h q = absurd (grind arith)
  wide-other (Sig k) h q = absurd (grind arith)
  wide-other (Word m a) h q = omega arith
  wide-other (Pick b i from w) h q = omega arith
  wide-other (Slice b low w) h q = omega arith
  wide-other (Un op a) h q = omega arith
  wide-other (Bin op a b) h q = omega arith
  wide-other (Cond t a b) h q = omega arith
  wide-other (Cat es) h q = omega arith
  wide-other (Rep n es) h q = absurd (grind arith)
  wide-other (Cast s a) h q = absurd (grind arith)
  wide-other (Call f es) h q = omega arith
  wide-other Time h q = omega arith
  wide-other LastAnswer h q = omega arith

  pub wide-plain : (e : Exp) → is_plain e ≡ true → exp_count body e ≤ wide_count body e
  wide-plain (Num v w s) h = omega arith
  wide-plain (Label v care w s) h = omega arith
  wide-plain (Sig k) h = omega arith
  wide-plain (Rep n es) h = omega arith
  wide-plain (Word m a) h = absurd (grind arith)
  wide-plain (Pick b i from w) h = absurd (grind arith)
  wide-plain (Slice b low w) h = absurd (grind arith)
  wide-plain (Un op a) h = absurd (grind arith)
  wide-plain (Bin op a b) h = absurd (grind arith)
  wide-plain (Cond t a b) h = absurd (grind arith)
  wide-plain (Cat es) h = absurd (grind arith)
  wide-plain (Cast s a) h = absurd (grind arith)
  wide-plain (Call f es) h = absurd (grind arith)
  wide-plain Time h = absurd (grind arith)
  wide-plain LastAnswer h = absurd (grind arith)

  pub choice-own : (t a b : Exp) (w : ℕ) → own_count body t + in_count names body w a + in_count names body w b + 1 ≤ in_count names body w (Cond t a b)
  choice-own t a b w = (let i = in-own t (form names t).width refl in let j = choice-few t a b w in omega (arith, i, j))

  pub resize-few : (w width : ℕ) → resizes w width ≤ (if w == width then 0 else 1)
  resize-few w width = go (w == width)
    where
      go : (q : Bool) → (if q then 0 else 1) ≤ (if q then 0 else 1)
      go true = omega arith
      go false = omega arith

  -- the subject of a case
  pub subject-few : (e : Exp) (items : Items) (c : Form) → c ≡ items_form names (form names e) items → in_count names body c.width e ≤ subject_count body e items
  subject-few e NoItems c h = (let z = in-own e c.width (ap (λ (f : Form). f.width) (sym h)) in omega arith)
  subject-few e (Labelled es a others) c h = in-most e c.width
  subject-few e (Default a others) c h = in-most e c.width

-- a label is compared by as many cells
pub label-cells : (c : Form) (e : Exp) → differing_count (care_in c e) ≡ label_count e
label-cells c (Label v care w s) = refl
label-cells c (Num v w s) = refl
label-cells c (Sig k) = refl
label-cells c (Word m a) = refl
label-cells c (Pick b i from w) = refl
label-cells c (Slice b low w) = refl
label-cells c (Un op a) = refl
label-cells c (Bin op a b) = refl
label-cells c (Cond t a b) = refl
label-cells c (Cat es) = refl
label-cells c (Rep n es) = refl
label-cells c (Cast s a) = refl
label-cells c (Call f es) = refl
label-cells c Time = refl
label-cells c LastAnswer = refl
