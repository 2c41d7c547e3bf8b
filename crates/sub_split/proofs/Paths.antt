-- The path of an instance matters to its calls alone.
use Rattle.std.proofs.Common.{◌≡◌, ℕ, true, false, List, [], refl, sym, ap, ◌∙◌, true≢false, append-nil}
use Rattle.vl_design.specs.vl_base.specs.declared.bits.UnOp.TheVariants.{LogNot}
use Rattle.vl_design.proofs.Unread.{or_false}
use Rattle.vl_design.specs.Exec.{asks}
use Rattle.vl_design.specs.Laws.{can_act, items_can_act}
use Rattle.vl_design.specs.Placed as p
use Rattle.vl_design.specs.Plainly as plain
use Rattle.vl_design.specs.Plainly.{called_first}
use Rattle.vl_design.specs.Syntax.{Stm, If, Case, Repeat}
use Rattle.sub_split.specs.Marks.{marks_of}

-- ---- a statement behind its call

pub first-quiet : (path : List ℕ) (e : p.Exp) (a b : Stm) → can_act (called_first [] e a) ≡ false → called_first path e b ≡ b
first-quiet path (p.Sys at name given) a b h = absurd (true≢false h)
first-quiet path (p.Un at LogNot (p.Sys q name given)) a b h = absurd (true≢false h)
first-quiet path e a b h = refl

module _ (path : List ℕ) where
  pub first-marks : (e : p.Exp) (a : Stm) → marks_of (called_first path e a) ≡ marks_of a
  first-marks (p.Sys at name given) a = append-nil (marks_of a)
  first-marks (p.Un at LogNot (p.Sys q name given)) a = append-nil (marks_of a)
  first-marks e a = refl

  -- whose condition is its answer
  pub first-acts : (e : p.Exp) (a : Stm) → (asks (plain.exp e) ≡ true → can_act a ≡ true) → can_act (called_first path e a) ≡ can_act a
  first-acts (p.Sys at name given) a h = sym (h refl)
  first-acts (p.Un at LogNot (p.Sys q name given)) a h = sym (h refl)
  first-acts e a h = refl

  pub first-can : (e : p.Exp) (a b : Stm) → can_act a ≡ can_act b → can_act (called_first path e a) ≡ can_act (called_first [] e b)
  first-can (p.Sys at name given) a b h = refl
  first-can (p.Un at LogNot (p.Sys q name given)) a b h = refl
  first-can e a b h = h

  item-can : (es : p.Exps) (a b : Stm) (xs ys : _) → can_act a ≡ can_act b → items_can_act xs ≡ items_can_act ys → items_can_act (plain.item es a xs) ≡ items_can_act (plain.item es b ys)
  item-can p.NoExps a b xs ys h k = rw (h, k) refl
  item-can (p.MoreExps e es) a b xs ys h k = rw (h, k) refl

  mutual
    pub stm-can : (x : p.Stm) → can_act (plain.stm path x) ≡ can_act (plain.stm [] x)
    stm-can (p.Nop at) = refl
    stm-can (p.Seq at xs) = stms-can xs
    stm-can (p.If at t a b) = first-can t _ _ (rw (stm-can a, stm-can b) refl)
    stm-can (p.Case at e items wild) = items-can items
    stm-can (p.For at k start test step a) = rw (stm-can start, stm-can step, stm-can a) refl
    stm-can (p.Repeat at n a) = stm-can a
    stm-can (p.Set at t e) = first-can e _ _ refl
    stm-can (p.Later at t e) = first-can e _ _ refl
    stm-can (p.Task at name given) = refl

    pub stms-can : (xs : p.Stms) → can_act (plain.stms path xs) ≡ can_act (plain.stms [] xs)
    stms-can p.NoStms = refl
    stms-can (p.MoreStms x xs) = rw (stm-can x, stms-can xs) refl

    pub items-can : (xs : p.Items) → items_can_act (plain.items path xs) ≡ items_can_act (plain.items [] xs)
    items-can p.NoItems = refl
    items-can (p.MoreItems es a others) = item-can es _ _ _ _ (stm-can a) (items-can others)

  item-parts : (es : p.Exps) (a : Stm) (xs : _) → items_can_act (plain.item es a xs) ≡ false → (can_act a ≡ false) × (items_can_act xs ≡ false)
  item-parts p.NoExps a xs h = or_false (can_act a) (items_can_act xs) h
  item-parts (p.MoreExps e es) a xs h = or_false (can_act a) (items_can_act xs) h

  mutual
    -- a statement that holds no call is the same in each instance
    pub stm-same : (x : p.Stm) → can_act (plain.stm [] x) ≡ false → plain.stm path x ≡ plain.stm [] x
    stm-same (p.Nop at) h = refl
    stm-same (p.Seq at xs) h = stms-same xs h
    stm-same (p.If at t a b) h =
        let here : Stm = If (plain.exp t) (plain.stm [] a) (plain.stm [] b) in
        let none = first-quiet [] t here here h in
        let k : can_act here ≡ false = sym (ap can_act none) ∙ h in
        let parts = or_false (asks (plain.exp t)) _ k in
        let both = or_false (can_act (plain.stm [] a)) (can_act (plain.stm [] b)) parts.1 in
        first-quiet path t here _ h ∙ (rw (stm-same a both.0, stm-same b both.1) refl ∙ sym none)
    stm-same (p.Case at e items wild) h = ap (Case (plain.exp e)) (items-same items h)
    stm-same (p.For at k start test step a) h =
        let parts = or_false (can_act (plain.stm [] start)) _ h in
        let both = or_false (can_act (plain.stm [] step)) (can_act (plain.stm [] a)) parts.1 in
        rw (stm-same start parts.0, stm-same step both.0, stm-same a both.1) refl
    stm-same (p.Repeat at n a) h = ap (Repeat n) (stm-same a h)
    stm-same (p.Set at t e) h = first-quiet path e _ _ h ∙ sym (first-quiet [] e _ _ h)
    stm-same (p.Later at t e) h = first-quiet path e _ _ h ∙ sym (first-quiet [] e _ _ h)
    stm-same (p.Task at name given) h = absurd (true≢false h)

    pub stms-same : (xs : p.Stms) → can_act (plain.stms [] xs) ≡ false → plain.stms path xs ≡ plain.stms [] xs
    stms-same p.NoStms h = refl
    stms-same (p.MoreStms x xs) h =
        let parts = or_false (can_act (plain.stm [] x)) (can_act (plain.stms [] xs)) h in
        rw (stm-same x parts.0, stms-same xs parts.1) refl

    pub items-same : (xs : p.Items) → items_can_act (plain.items [] xs) ≡ false → plain.items path xs ≡ plain.items [] xs
    items-same p.NoItems h = refl
    items-same (p.MoreItems es a others) h =
        let parts = item-parts es (plain.stm [] a) (plain.items [] others) h in
        rw (stm-same a parts.0, items-same others parts.1) refl
