-- Right sides, conditions and labels whose parts fit: a system call may be the whole of one.
use Rattle.std.proofs.Common.{◌≡◌, Bool, true, false, if◌then◌else◌, List, [], ◌∷◌, Option, Some, None, refl, sym, subst}
use Rattle.vl_flat.specs.vl_tree.specs.declared.tree.Expression as e
use Rattle.vl_flat.specs.vl_tree.specs.declared.tree.Expression.{Expression}
use Rattle.vl_flat.specs.vl_tree.specs.declared.tree.Binary as b
use Rattle.vl_flat.specs.vl_tree.specs.declared.tree.Primary as p
use Rattle.vl_flat.specs.vl_tree.specs.declared.tree.Primary.{Primary}
use Rattle.vl_flat.specs.vl_tree.specs.declared.tree.Unary.{Unary, out-Unary}
use Rattle.vl_flat.specs.vl_tree.specs.declared.tree.UnaryMark.{UnaryMark}
use Rattle.vl_flat.specs.vl_tree.specs.declared.tree.UnaryOperator.{UnaryOperator}
use Rattle.vl_flat.specs.vl_tree.specs.declared.tree.UnaryOperator.TheVariants as o
use Rattle.vl_flat.specs.vl_tree.specs.declared.tree.SystemCall.{SystemCall}
use Rattle.vl_flat.specs.vl_tree.specs.declared.source_tree.CaseKeyword.{CaseKeyword}
use Rattle.vl_flat.specs.vl_tree.specs.declared.source_tree.CaseKeyword.TheVariants as ck
use Rattle.vl_names.specs.vl_uses.specs.declared.setting.Setting.{Setting}
use Rattle.vl_names.specs.vl_uses.specs.declared.setting.Usage.TheVariants.{Whole}
use Rattle.vl_names.specs.vl_uses.specs.Alone as s
use Rattle.vl_names.specs.vl_uses.specs.Nodes as n
use Rattle.vl_flat.specs.Binding as f
use Rattle.vl_flat.specs.Surface as x
use Rattle.vl_flat.specs.vl_base.specs.declared.place.Place.{Place}
use Rattle.vl_sound.specs.Used.{Classes, IsUsed, IsUsedSide, IsUsedTest}
use Rattle.vl_sound.proofs.Sides.{used-side, side-test}
use Rattle.vl_sound.proofs.Loading.{some-same, operand-is, sole-is}
use Rattle.vl_sound.proofs.ExpressionsOfNamed.{Every, Suits, proper-is, ex-used, system-used}

-- ---- parentheses

-- what holds in parentheses as without them
module _ (R : x.Ex → Type 0) (paren : (at : Place) (a : x.Ex) → R a → R (x.Paren at a)) where
  -- an operand that stands alone, or another
  alone-used : {m : _} (v y : Expression) (marks : List UnaryMark) (links : b.Row_of-Link m) (a : x.Ex) → (R (f.bound links (f.marked marks a)) → R (f.ex v))
      → ((R a → R (f.ex v)) → R (f.ex y) → R (f.ex v)) → R (f.ex (if s.stands_alone marks links then y else v)) → R (f.ex v)
  alone-used v y [] b.end_of-Link a back inside u = inside back u
  alone-used v y [] (b.more_of-Link o at ms h row rest) a back inside u = u
  alone-used v y (m ∷ marks) links a back inside u = u

  mutual
    unfolding s.stripped s.stripped_row s.stripped_primary s.stripped_inner

    -- what is used inside parentheses is used with them
    stripped-used : (v : Expression) → R (f.ex (s.stripped v)) → R (f.ex v)
    stripped-used (e.Expression' at h whole e.Expression-choice-None') u = row-used (e.Expression' at h whole e.Expression-choice-None') whole (λ w. w) u
    stripped-used (e.Expression' at h whole (e.Expression-choice-Some' t choice)) u = u

    row-used : {m : _} (v : Expression) (row : e.Row_of-Binary m) → (R (f.first_binary row) → R (f.ex v)) → R (f.ex (s.stripped_row v row)) → R (f.ex v)
    row-used v e.end_of-Binary back u = u
    row-used v (e.more_of-Binary (b.Binary' at from marks h primary t links) rest) back u =
        alone-used v (s.stripped_primary v primary) marks links (f.first_primary primary) back (λ b w. primary-used v primary b w) u

    primary-used : {m : _} (v : Expression) (row : b.Row_of-Primary m) → (R (f.first_primary row) → R (f.ex v)) → R (f.ex (s.stripped_primary v row)) → R (f.ex v)
    primary-used v (b.more_of-Primary (p.Parenthesized' at h inner) rest) back u = inner-used v inner (λ w. back (paren at (f.first inner) w)) u
    primary-used v row back u = u

    inner-used : {m : _} (v : Expression) (row : p.Row_of-Expression m) → (R (f.first row) → R (f.ex v)) → R (f.ex (s.stripped_inner v row)) → R (f.ex v)
    inner-used v p.end_of-Expression back u = u
    inner-used v (p.more_of-Expression inner rest) back u = back (stripped-used inner u)

  apart-used : (v : Expression) (y : Primary) → s.apart v ≡ Some y → R (f.primary y) → R (f.ex v)
  apart-used v y h u = stripped-used v (subst R (sym (sole-is (s.stripped v) y h)) u)

  row-apart-used : {m : _} (row : p.Row_of-Expression m) (y : Primary) → s.row_apart row ≡ Some y → R (f.primary y) → R (f.first row)
  row-apart-used p.end_of-Expression y h u = absurd cc
  row-apart-used (p.more_of-Expression inner rest) y h u = apart-used inner y h u

  primary-apart-used : (a y : Primary) → s.primary_apart a ≡ Some y → R (f.primary y) → R (f.primary a)
  primary-apart-used (p.Parenthesized' at q inner) y h u = paren at (f.first inner) (row-apart-used inner y h u)
  primary-apart-used a y h u = subst (λ w. R (f.primary w)) (sym (some-same a y h)) u

module _ (k : Classes) where
  -- ---- calls that are the whole

  call-is : (q : Option Primary) (a : SystemCall) → n.call_in q ≡ Some a → q ≡ Some (p.System a)
  call-is (Some (p.System y)) a h = same y h
    where
      same : (y : SystemCall) → ◌≡◌ {A = Option SystemCall} (Some y) (Some a) → ◌≡◌ {A = Option Primary} (Some (p.System y)) (Some (p.System a))
      same y g = cc
  call-is q a h = absurd cc

  -- ---- behind one `!`

  mark-used : (at : Place) (op : UnaryOperator) (a y : Primary) → s.behind_mark op a ≡ Some y → IsUsedSide k (f.primary y) → IsUsedTest k (x.Unary at op (f.primary a))
  mark-used at o.LogicalNot a y h u = primary-apart-used (IsUsedSide k) (λ at a w. w) a y h u
  mark-used at op a y h u = absurd cc

  marks-used : (ms : List UnaryMark) (a y : Primary) → s.behind_marks ms a ≡ Some y → IsUsedSide k (f.primary y) → IsUsedTest k (f.marked ms (f.primary a))
  marks-used [] a y h u = absurd cc
  marks-used (m ∷ []) a y h u = mark-used m.place m.operator a y h u
  marks-used (m ∷ w ∷ ms) a y h u = absurd cc

  negated-used : (v : Expression) (y : Primary) → s.negated v ≡ Some y → IsUsedSide k (f.primary y) → IsUsedTest k (f.ex v)
  negated-used v y h u = stripped-used (IsUsedTest k) (λ at a w. w) v (by (s.operand_of (s.stripped v)) refl h)
    where
      by : (q : Option Unary) → s.operand_of (s.stripped v) ≡ q → s.negated_in q ≡ Some y → IsUsedTest k (f.ex (s.stripped v))
      by None g i = absurd cc
      by (Some w) g i = subst (IsUsedTest k) (sym (operand-is (s.stripped v) w g)) (marks-used (out-Unary w).operators (out-Unary w).primary y i u)

  -- ---- labels

  number-used : (v : Expression) → n.is_number (s.apart v) ≡ true → IsUsed k (f.ex v)
  number-used v h = by (s.apart v) refl h
    where
      by : (q : Option Primary) → s.apart v ≡ q → n.is_number q ≡ true → IsUsed k (f.ex v)
      by (Some (p.Number at a)) g i = apart-used (IsUsed k) (λ at a w. w) v (p.Number at a) g (proper-is a)
      by q g i = absurd cc

module _ (k : Classes) (P : n.Node → Type 0) (Q : Setting → Type 0) (suits : Suits k P Q) where
  -- a call that is the whole, or what else stands there
  whole-used : (R : x.Ex → Type 0) (st : Setting) → Q st → (v : Expression) (q : Option Primary) → ((y : Primary) → q ≡ Some y → IsUsedSide k (f.primary y) → R (f.ex v))
      → (others : List n.Node) → (Every P others → R (f.ex v)) → Every P (n.whole_nodes st (n.call_in q) others) → R (f.ex v)
  whole-used R st c v q back others rest w = by (n.call_in q) refl w
    where
      by : (o : Option SystemCall) → n.call_in q ≡ o → Every P (n.whole_nodes st o others) → R (f.ex v)
      by None h u = rest u
      by (Some a) h u = back (p.System a) (call-is k q a h) (system-used k P Q suits st c Whole a u)

  pub right-side-used : (st : Setting) → Q st → (v : Expression) → Every P (n.right_side_nodes st v) → IsUsedSide k (f.ex v)
  unfolding n.right_side_nodes
  right-side-used st c v w =
      whole-used (IsUsedSide k) st c v (s.apart v) (apart-used (IsUsedSide k) (λ at a w. w) v) (n.expression_nodes st v) (λ u. used-side k (f.ex v) (ex-used k P Q suits st c v u)) w

  pub condition-used : (st : Setting) → Q st → (v : Expression) → Every P (n.condition_nodes st v) → IsUsedTest k (f.ex v)
  unfolding n.condition_nodes
  condition-used st c v w =
      whole-used (IsUsedTest k) st c v (s.apart v) (λ y h u. apart-used (IsUsedTest k) (λ at a w. w) v y h (side-test k (f.primary y) u)) (n.whole_nodes st (n.call_in (s.negated v)) (n.expression_nodes st v))
      (λ u. whole-used (IsUsedTest k) st c v (s.negated v) (negated-used k v) (n.expression_nodes st v) (λ u. side-test k (f.ex v) (used-side k (f.ex v) (ex-used k P Q suits st c v u))) u) w

  pub label-used : (st : Setting) → Q st → (word : CaseKeyword) (v : Expression) → Every P (n.label_nodes st word v) → IsUsed k (f.ex v)
  unfolding n.label_nodes
  label-used st c ck.Case v w = ex-used k P Q suits st c v w
  label-used st c ck.Casez v w = by (n.is_number (s.apart v)) refl w
    where
      by : (t : Bool) → n.is_number (s.apart v) ≡ t → Every P (if t then [] else n.expression_nodes st v) → IsUsed k (f.ex v)
      by true h u = number-used k v h
      by false h u = ex-used k P Q suits st c v u
