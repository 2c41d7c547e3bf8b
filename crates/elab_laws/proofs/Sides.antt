-- Right sides, conditions and labels whose parts have no fault: a system call may be the whole of one.
use Rattle.std.proofs.Common.{◌≡◌, Bool, true, false, if◌then◌else◌, ⊎_elim, inl, List, [], ◌∷◌, Option, Some, None, refl, sym, subst}
use Rattle.vl_sound.specs.vl_tree.specs.declared.tree.Expression as e
use Rattle.vl_sound.specs.vl_tree.specs.declared.tree.Expression.{Expression}
use Rattle.vl_sound.specs.vl_tree.specs.declared.tree.Binary as b
use Rattle.vl_sound.specs.vl_tree.specs.declared.tree.Primary as p
use Rattle.vl_sound.specs.vl_tree.specs.declared.tree.Primary.{Primary}
use Rattle.vl_sound.specs.vl_tree.specs.declared.tree.Unary.{Unary, out-Unary}
use Rattle.vl_sound.specs.vl_tree.specs.declared.tree.UnaryMark.{UnaryMark}
use Rattle.vl_sound.specs.vl_tree.specs.declared.tree.UnaryOperator.{UnaryOperator}
use Rattle.vl_sound.specs.vl_tree.specs.declared.tree.UnaryOperator.TheVariants as o
use Rattle.vl_sound.specs.vl_tree.specs.declared.tree.SystemCall as y
use Rattle.vl_sound.specs.vl_tree.specs.declared.tree.SystemCall.{SystemCall}
use Rattle.vl_sound.specs.vl_tree.specs.declared.source_tree.CaseKeyword.{CaseKeyword}
use Rattle.vl_sound.specs.vl_tree.specs.declared.source_tree.CaseKeyword.TheVariants as ck
use Rattle.vl_sound.specs.vl_uses.specs.declared.setting.Setting.{Setting}
use Rattle.vl_sound.specs.vl_uses.specs.declared.setting.Usage.TheVariants.{Whole}
use Rattle.vl_sound.specs.vl_uses.specs.Alone as s
use Rattle.vl_sound.specs.vl_uses.specs.Nodes as n
use Rattle.vl_sound.specs.vl_uses.specs.UseFaults.{Meanings}
use Rattle.vl_sound.specs.vl_flat.specs.Binding as f
use Rattle.vl_sound.specs.vl_flat.specs.Surface as x
use Rattle.vl_sound.specs.vl_base.specs.declared.place.Place.{Place}
use Rattle.vl_sound.specs.Used.{Classes}
use Rattle.vl_sound.proofs.Loading.{some-same, operand-is, sole-is}
use Rattle.vl_sound.proofs.ExpressionsOfNamed.{Every, first-so, rest-so}
use Rattle.vl_sound.proofs.Fitting.{IsFine, Means}
use Rattle.elab_laws.proofs.Leaves.{Has, ArgsHave, IsPlain, IsSide, IsTest}
use Rattle.elab_laws.proofs.Walk.{ex-has, arguments-have}
use Rattle.elab_laws.proofs.Allowed.{plain-suits, call-loads, fine-whole}

-- ---- parentheses

-- what holds in parentheses as without them
module _ (R : x.Ex → Type 0) (paren : (at : Place) (a : x.Ex) → R a → R (x.Paren at a)) where
  -- an operand that stands alone, or another
  alone-so : {m : _} (v y : Expression) (marks : List UnaryMark) (links : b.Row_of-Link m) (a : x.Ex) → (R (f.bound links (f.marked marks a)) → R (f.ex v))
      → ((R a → R (f.ex v)) → R (f.ex y) → R (f.ex v)) → R (f.ex (if s.stands_alone marks links then y else v)) → R (f.ex v)
  alone-so v y [] b.end_of-Link a back inside u = inside back u
  alone-so v y [] (b.more_of-Link o at ms h row rest) a back inside u = u
  alone-so v y (m ∷ marks) links a back inside u = u

  mutual
    unfolding s.stripped s.stripped_row s.stripped_primary s.stripped_inner

    -- what is so inside parentheses is so with them
    stripped-so : (v : Expression) → R (f.ex (s.stripped v)) → R (f.ex v)
    stripped-so (e.Expression' at h whole e.Expression-choice-None') u = row-so (e.Expression' at h whole e.Expression-choice-None') whole (λ w. w) u
    stripped-so (e.Expression' at h whole (e.Expression-choice-Some' t choice)) u = u

    row-so : {m : _} (v : Expression) (row : e.Row_of-Binary m) → (R (f.first_binary row) → R (f.ex v)) → R (f.ex (s.stripped_row v row)) → R (f.ex v)
    row-so v e.end_of-Binary back u = u
    row-so v (e.more_of-Binary (b.Binary' at from marks h primary t links) rest) back u =
        alone-so v (s.stripped_primary v primary) marks links (f.first_primary primary) back (λ b w. primary-so v primary b w) u

    primary-so : {m : _} (v : Expression) (row : b.Row_of-Primary m) → (R (f.first_primary row) → R (f.ex v)) → R (f.ex (s.stripped_primary v row)) → R (f.ex v)
    primary-so v (b.more_of-Primary (p.Parenthesized' at h inner) rest) back u = inner-so v inner (λ w. back (paren at (f.first inner) w)) u
    primary-so v row back u = u

    inner-so : {m : _} (v : Expression) (row : p.Row_of-Expression m) → (R (f.first row) → R (f.ex v)) → R (f.ex (s.stripped_inner v row)) → R (f.ex v)
    inner-so v p.end_of-Expression back u = u
    inner-so v (p.more_of-Expression inner rest) back u = back (stripped-so inner u)

  apart-so : (v : Expression) (y : Primary) → s.apart v ≡ Some y → R (f.primary y) → R (f.ex v)
  apart-so v y h u = stripped-so v (subst R (sym (sole-is (s.stripped v) y h)) u)

  row-apart-so : {m : _} (row : p.Row_of-Expression m) (y : Primary) → s.row_apart row ≡ Some y → R (f.primary y) → R (f.first row)
  row-apart-so p.end_of-Expression y h u = absurd cc
  row-apart-so (p.more_of-Expression inner rest) y h u = apart-so inner y h u

  primary-apart-so : (a y : Primary) → s.primary_apart a ≡ Some y → R (f.primary y) → R (f.primary a)
  primary-apart-so (p.Parenthesized' at q inner) y h u = paren at (f.first inner) (row-apart-so inner y h u)
  primary-apart-so a y h u = subst (λ w. R (f.primary w)) (sym (some-same a y h)) u

call-is : (q : Option Primary) (a : SystemCall) → n.call_in q ≡ Some a → q ≡ Some (p.System a)
call-is (Some (p.System y)) a h = same y h
  where
    same : (y : SystemCall) → ◌≡◌ {A = Option SystemCall} (Some y) (Some a) → ◌≡◌ {A = Option Primary} (Some (p.System y)) (Some (p.System a))
    same y g = cc
call-is q a h = absurd cc

module _ (k : Classes) (timed : Bool) where
  has-side : (a : x.Ex) → Has (IsPlain timed) a → IsSide k timed a
  has-side (x.System at name as') v = (inl v.0, v.1)
  has-side (x.Paren at a) v = has-side a v
  has-side a v = v

  side-test : (a : x.Ex) → IsSide k timed a → IsTest k timed a
  side-test (x.Unary at o.LogicalNot a) v = has-side a v
  side-test (x.Paren at a) v = side-test a v
  side-test a v = v

  -- where no time is asked for, a call is an operand
  pub side-has : (a : x.Ex) → timed ≡ false → IsSide k timed a → Has (IsPlain timed) a
  side-has (x.System at name as') e v = (⊎_elim (λ h. h) (λ h. let z : ⊥ = cc (h.timely, e) in absurd z) v.0, v.1)
  side-has (x.Paren at a) e v = side-has a e v
  side-has a e v = v

  -- ---- behind one `!`

  mark-so : (at : Place) (op : UnaryOperator) (a y : Primary) → s.behind_mark op a ≡ Some y → IsSide k timed (f.primary y) → IsTest k timed (x.Unary at op (f.primary a))
  mark-so at o.LogicalNot a y h u = primary-apart-so (IsSide k timed) (λ at a w. w) a y h u
  mark-so at op a y h u = absurd cc

  marks-so : (ms : List UnaryMark) (a y : Primary) → s.behind_marks ms a ≡ Some y → IsSide k timed (f.primary y) → IsTest k timed (f.marked ms (f.primary a))
  marks-so [] a y h u = absurd cc
  marks-so (m ∷ []) a y h u = mark-so m.place m.operator a y h u
  marks-so (m ∷ w ∷ ms) a y h u = absurd cc

  negated-so : (v : Expression) (y : Primary) → s.negated v ≡ Some y → IsSide k timed (f.primary y) → IsTest k timed (f.ex v)
  negated-so v y h u = stripped-so (IsTest k timed) (λ at a w. w) v (by (s.operand_of (s.stripped v)) refl h)
    where
      by : (q : Option Unary) → s.operand_of (s.stripped v) ≡ q → s.negated_in q ≡ Some y → IsTest k timed (f.ex (s.stripped v))
      by None g i = absurd cc
      by (Some w) g i = subst (IsTest k timed) (sym (operand-is (s.stripped v) w g)) (marks-so (out-Unary w).operators (out-Unary w).primary y i u)

  -- ---- labels

  number-so : (v : Expression) → n.is_number (s.apart v) ≡ true → Has (IsPlain timed) (f.ex v)
  number-so v h = by (s.apart v) refl h
    where
      by : (q : Option Primary) → s.apart v ≡ q → n.is_number q ≡ true → Has (IsPlain timed) (f.ex v)
      by (Some (p.Number at a)) g i = apart-so (Has (IsPlain timed)) (λ at a w. w) v (p.Number at a) g tt
      by q g i = absurd cc

module _ (m : Meanings) (k : Classes) (means : Means m k) where
  abbrev P : n.Node → Type 0
  P = IsFine m

  pub fine-has : (st : Setting) (v : Expression) → Every P (n.expression_nodes st v) → Has (IsPlain st.timed) (f.ex v)
  fine-has st v w = ex-has (IsPlain st.timed) P (λ s. s.timed ≡ st.timed) (plain-suits m st.timed) st refl v w

  pub fine-arguments : (st : Setting) (given : y.Held-SystemCall-arguments) → Every P (n.arguments_nodes st false given) → ArgsHave (IsPlain st.timed) (f.arguments given)
  fine-arguments st given w = arguments-have (IsPlain st.timed) P (λ s. s.timed ≡ st.timed) (plain-suits m st.timed) st refl given w

  call-side : (st : Setting) (a : SystemCall) → Every P (n.system_nodes st Whole a) → IsSide k st.timed (f.system a)
  unfolding n.system_nodes
  call-side st (y.SystemCall' at name given) w =
      let a = y.SystemCall' at name given in
      let as' = n.arguments_nodes st (n.is_load name) given in
      let here = fine-whole m k means st a (first-so P (n.node st (n.system Whole a)) as' w) in
      (here, fine-arguments st given (subst (λ t. Every P (n.arguments_nodes st t given)) (call-loads k st.timed name (f.arguments given) here) (rest-so P (n.node st (n.system Whole a)) as' w)))

  -- a call that is the whole, or what else stands there
  whole-so : (R : x.Ex → Type 0) (st : Setting) (v : Expression) (q : Option Primary) → ((y : Primary) → q ≡ Some y → IsSide k st.timed (f.primary y) → R (f.ex v))
      → (others : List n.Node) → (Every P others → R (f.ex v)) → Every P (n.whole_nodes st (n.call_in q) others) → R (f.ex v)
  whole-so R st v q back others rest w = by (n.call_in q) refl w
    where
      by : (o : Option SystemCall) → n.call_in q ≡ o → Every P (n.whole_nodes st o others) → R (f.ex v)
      by None h u = rest u
      by (Some a) h u = back (p.System a) (call-is q a h) (call-side st a u)

  pub right-side-so : (st : Setting) (v : Expression) → Every P (n.right_side_nodes st v) → IsSide k st.timed (f.ex v)
  unfolding n.right_side_nodes
  right-side-so st v w =
      whole-so (IsSide k st.timed) st v (s.apart v) (apart-so (IsSide k st.timed) (λ at a w. w) v) (n.expression_nodes st v) (λ u. has-side k st.timed (f.ex v) (fine-has st v u)) w

  pub condition-so : (st : Setting) (v : Expression) → Every P (n.condition_nodes st v) → IsTest k st.timed (f.ex v)
  unfolding n.condition_nodes
  condition-so st v w =
      whole-so (IsTest k st.timed) st v (s.apart v) (λ y h u. apart-so (IsTest k st.timed) (λ at a w. w) v y h (side-test k st.timed (f.primary y) u)) (n.whole_nodes st (n.call_in (s.negated v)) (n.expression_nodes st v))
      (λ u. whole-so (IsTest k st.timed) st v (s.negated v) (negated-so k st.timed v) (n.expression_nodes st v) (λ u. side-test k st.timed (f.ex v) (has-side k st.timed (f.ex v) (fine-has st v u))) u) w

  pub label-so : (st : Setting) (word : CaseKeyword) (v : Expression) → Every P (n.label_nodes st word v) → Has (IsPlain st.timed) (f.ex v)
  unfolding n.label_nodes
  label-so st ck.Case v w = fine-has st v w
  label-so st ck.Casez v w = by (n.is_number (s.apart v)) refl w
    where
      by : (t : Bool) → n.is_number (s.apart v) ≡ t → Every P (if t then [] else n.expression_nodes st v) → Has (IsPlain st.timed) (f.ex v)
      by true h u = number-so k st.timed v h
      by false h u = fine-has st v u
