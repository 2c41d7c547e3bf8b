-- Left sides and statements without faults: a process assigns variables and memories, and asks for the time only where it may; of its
-- calls those of functions on files give answers, and those of `$save` have names that are fit for files.
use Rattle.std.proofs.Common.{◌≡◌, ℕ, Bool, true, List, [], ◌∷◌, ◌++◌, Option, Some, refl, subst}
use Rattle.std.specs.Prelude.{flat_map}
use Rattle.vl_sound.specs.vl_base.specs.declared.place.Place.{Place}
use Rattle.vl_sound.specs.vl_tree.specs.declared.tree.Expression.{Expression}
use Rattle.vl_sound.specs.vl_tree.specs.declared.tree.Name as nm
use Rattle.vl_sound.specs.vl_tree.specs.declared.tree.Select.{Select}
use Rattle.vl_sound.specs.vl_tree.specs.declared.tree.SystemCall as y
use Rattle.vl_sound.specs.vl_tree.specs.declared.source_tree.Assignment.{Assignment}
use Rattle.vl_sound.specs.vl_tree.specs.declared.source_tree.CaseKeyword.{CaseKeyword}
use Rattle.vl_sound.specs.vl_tree.specs.declared.source_tree.CaseItem as ci
use Rattle.vl_sound.specs.vl_tree.specs.declared.source_tree.Statement as s
use Rattle.vl_sound.specs.vl_tree.specs.declared.source_tree.Lvalue as l
use Rattle.vl_sound.specs.vl_scope.specs.declared.kind.Class.{Class}
use Rattle.vl_sound.specs.vl_uses.specs.declared.setting.Setting.{Setting}
use Rattle.vl_sound.specs.vl_uses.specs.declared.setting.Side.{Side}
use Rattle.vl_sound.specs.vl_uses.specs.declared.setting.Side.TheVariants.{Continuous, Procedural}
use Rattle.vl_sound.specs.vl_uses.specs.declared.setting.Usage.TheVariants.{Task}
use Rattle.vl_sound.specs.vl_uses.specs.Settings.{constantly, of_index}
use Rattle.vl_sound.specs.vl_uses.specs.Nodes as n
use Rattle.vl_sound.specs.vl_uses.specs.UseFaults as u
use Rattle.vl_sound.specs.vl_uses.specs.UseFaults.{Meanings}
use Rattle.vl_sound.specs.vl_flat.specs.Surface as x
use Rattle.vl_sound.specs.vl_flat.specs.Binding as f
use Rattle.vl_sound.specs.Used.{Classes}
use Rattle.vl_sound.proofs.ExpressionsOfNamed.{Every, lefts-so, rights-so, first-so, rest-so}
use Rattle.vl_sound.proofs.Fitting.{IsFine, Means}
use Rattle.elab_laws.proofs.Leaves.{LeftAll, LeftsAll, ExsHave, SelectsHave, IsPlain, IsFixed, IsStored, IsDriven, IsSide, IsLeft, IsDrivenLeft, IsBody, AreBodies, HaveBodies}
use Rattle.elab_laws.proofs.Walk.{selects-have}
use Rattle.elab_laws.proofs.Allowed.{plain-suits, fixed-suits, stored-class, driven-class, target-so, fine-task}
use Rattle.elab_laws.proofs.Sides.{fine-has, fine-arguments, right-side-so, condition-so, label-so}

module _ (m : Meanings) (k : Classes) (means : Means m k) where
  abbrev pub Fine : List n.Node → Type 0
  Fine as' = Every (IsFine m) as'

  left-of : (as' bs : List n.Node) → Fine (as' ++ bs) → Fine as'
  left-of as' bs w = lefts-so (IsFine m) as' bs w

  right-of : (as' bs : List n.Node) → Fine (as' ++ bs) → Fine bs
  right-of as' bs w = rights-so (IsFine m) as' bs w

  -- ---- left sides

  -- the names are of such classes, and their selects are so
  module _ (T : Option Class → Type 0) (side : Side) (so : (class : Class) (vector : Bool) (ss : List Select) → u.is_assignable side class vector ss ≡ true → T (Some class))
      (S : x.Selects → Type 0) (st : Setting) (selects-so : (i : _) (row : nm.Row_of-Select i) → Fine (n.select_row (of_index side st) row) → S (f.selects row)) where
    abbrev N : List ℕ → x.Selects → Type 0
    N t ss = T (k.read t) × S ss

    name-so : (a : nm.Name) → Fine (n.lvalue_nodes side st (l.Name a)) → LeftAll N (f.left_named (f.named a))
    unfolding n.lvalue_nodes n.name_nodes
    name-so (nm.Name' at name h row) w =
        let a = nm.Name' at name h row in
        let b = n.node st (n.target side a) in
        let as' = n.name_nodes (of_index side st) a in
        (target-so m k means T side so st a (first-so (IsFine m) b as' w), selects-so _ row (rest-so (IsFine m) b as' w))

    mutual
      unfolding n.lvalue_nodes n.lvalue_row

      left-at : (v : l.Lvalue) → Fine (n.lvalue_nodes side st v) → LeftAll N (f.left v)
      left-at (l.Name a) w = name-so a w
      left-at (l.Concatenation' at h row) w = lefts-at row w

      lefts-at : {m' : _} (row : l.Row_of-Lvalue m') → Fine (n.lvalue_row side st row) → LeftsAll N (f.lefts row)
      lefts-at l.end_of-Lvalue w = tt
      lefts-at (l.more_of-Lvalue a rest) w =
          (left-at a (left-of (n.lvalue_nodes side st a) (n.lvalue_row side st rest) w), lefts-at rest (right-of (n.lvalue_nodes side st a) (n.lvalue_row side st rest) w))

  plain-selects : {i : _} (timed : Bool) (st : Setting) → st.timed ≡ timed → (row : nm.Row_of-Select i) → Fine (n.select_row st row) → SelectsHave (IsPlain timed) (f.selects row)
  plain-selects timed st e row w = selects-have (IsPlain timed) (IsFine m) (λ s. s.timed ≡ timed) (plain-suits m timed) st e row w

  -- of a process
  left-so : (st : Setting) (v : l.Lvalue) → Fine (n.lvalue_nodes Procedural st v) → IsLeft k st.timed (f.left v)
  left-so st v w = left-at IsStored Procedural stored-class (SelectsHave (IsPlain st.timed)) st (λ i row u. plain-selects st.timed st refl row u) v w

  -- of a continuous assignment
  driven-so : (st : Setting) (v : l.Lvalue) → Fine (n.lvalue_nodes Continuous st v) → IsDrivenLeft k st.timed (f.left v)
  driven-so st v w =
      left-at IsDriven Continuous driven-class (λ ss. SelectsHave (IsFixed k) ss × SelectsHave (IsPlain st.timed) ss) st
      (λ i row u. (selects-have (IsFixed k) (IsFine m) (λ s. s.constant ≡ true) (fixed-suits m k means) (constantly st) refl row u, plain-selects st.timed (constantly st) refl row u)) v w

  assignment-so : (st : Setting) (a : Assignment) → Fine (n.assignment_nodes Procedural st a) → IsLeft k st.timed (f.left a.target) × IsSide k st.timed (f.ex a.value)
  unfolding n.assignment_nodes
  assignment-so st a w = (
    left-so st a.target (left-of (n.lvalue_nodes Procedural st a.target) (n.right_side_nodes st a.value) w),
    right-side-so m k means st a.value (right-of (n.lvalue_nodes Procedural st a.target) (n.right_side_nodes st a.value) w),
  )

  pub continuous-so : (st : Setting) (a : Assignment) → Fine (n.assignment_nodes Continuous st a) → IsDrivenLeft k st.timed (f.left a.target) × IsSide k st.timed (f.ex a.value)
  unfolding n.assignment_nodes
  continuous-so st a w = (
    driven-so st a.target (left-of (n.lvalue_nodes Continuous st a.target) (n.right_side_nodes st a.value) w),
    right-side-so m k means st a.value (right-of (n.lvalue_nodes Continuous st a.target) (n.right_side_nodes st a.value) w),
  )

  -- ---- statements

  labels-so : (st : Setting) (word : CaseKeyword) (as' : List Expression) → Fine (flat_map (n.label_nodes st word) as') → ExsHave (IsPlain st.timed) (f.list_exs as')
  labels-so st word [] w = tt
  labels-so st word (a ∷ as') w = (
    label-so m k means st word a (left-of (n.label_nodes st word a) (flat_map (n.label_nodes st word) as') w),
    labels-so st word as' (right-of (n.label_nodes st word a) (flat_map (n.label_nodes st word) as') w),
  )

  task-so : (st : Setting) (at : Place) (a : y.SystemCall) → Fine (n.system_nodes st Task a) → IsBody k st.timed (f.task at (f.system a))
  unfolding n.system_nodes
  task-so st at (y.SystemCall' q name given) w =
      let a = y.SystemCall' q name given in
      let as' = n.arguments_nodes st (n.is_load name) given in
      let here = fine-task m k means st a (first-so (IsFine m) (n.node st (n.system Task a)) as' w) in
      record {
        loaded = here.0;
        filled = here.1;
        saves = here.2;
        read = λ e. fine-arguments m k means st given (subst (λ t. Fine (n.arguments_nodes st t given)) e (rest-so (IsFine m) (n.node st (n.system Task a)) as' w));
      }

  mutual
    unfolding n.statement_nodes n.otherwise_nodes n.statement_row n.case_row n.case_nodes

    pub statement-so : (st : Setting) (a : s.Statement) → Fine (n.statement_nodes st a) → IsBody k st.timed (f.statement a)
    statement-so st (s.Null at) w = tt
    statement-so st (s.Block' at h row) w = statements-so st row w
    statement-so st (s.If' at test h row otherwise) w =
        let as' = n.condition_nodes st test in
        let bs = n.statement_row st row in
        let both = left-of (as' ++ bs) (n.otherwise_nodes st otherwise) w in
        (condition-so m k means st test (left-of as' bs both), first-statement-so st row (right-of as' bs both), other-so st otherwise at (right-of (as' ++ bs) (n.otherwise_nodes st otherwise) w))
    statement-so st (s.Case' at word subject h row) w =
        let as' = n.expression_nodes st subject in
        let bs = n.case_row st word row in
        (fine-has m k means st subject (left-of as' bs w), cases-so st word row (right-of as' bs w))
    statement-so st (s.For' at start test step h row) w =
        let as' = n.assignment_nodes Procedural st start in
        let bs = n.expression_nodes st test in
        let cs = n.assignment_nodes Procedural st step in
        let ds = n.statement_row st row in
        let three = left-of (as' ++ bs ++ cs) ds w in
        let two = left-of (as' ++ bs) cs three in
        let first = assignment-so st start (left-of as' bs two) in
        let next = assignment-so st step (right-of (as' ++ bs) cs three) in
        (first.0, first.1, fine-has m k means st test (right-of as' bs two), next.0, next.1, first-statement-so st row (right-of (as' ++ bs ++ cs) ds w))
    statement-so st (s.Repeat' at count h row) w = first-statement-so st row (right-of (n.expression_nodes (constantly st) count) (n.statement_row st row) w)
    statement-so st (s.Assign at target mark value) w =
        let as' = n.lvalue_nodes Procedural st target in
        let bs = n.right_side_nodes st value in
        (left-so st target (left-of as' bs w), right-side-so m k means st value (right-of as' bs w))
    statement-so st (s.System at call) w = task-so st at call w

    other-so : (st : Setting) (o : s.Held-Statement-If-3) (at : Place) → Fine (n.otherwise_nodes st o) → IsBody k st.timed (f.other o at)
    other-so st s.None' at w = tt
    other-so st (s.Some' h row) at w = first-statement-so st row w

    first-statement-so : {m' : _} (st : Setting) (row : s.Row_of-Statement m') → Fine (n.statement_row st row) → IsBody k st.timed (f.first_statement row)
    first-statement-so st s.end_of-Statement w = tt
    first-statement-so st (s.more_of-Statement a rest) w = statement-so st a (left-of (n.statement_nodes st a) (n.statement_row st rest) w)

    statements-so : {m' : _} (st : Setting) (row : s.Row_of-Statement m') → Fine (n.statement_row st row) → AreBodies k st.timed (f.statements row)
    statements-so st s.end_of-Statement w = tt
    statements-so st (s.more_of-Statement a rest) w =
        (statement-so st a (left-of (n.statement_nodes st a) (n.statement_row st rest) w), statements-so st rest (right-of (n.statement_nodes st a) (n.statement_row st rest) w))

    cases-so : {m' : _} (st : Setting) (word : CaseKeyword) (row : s.Row_of-CaseItem m') → Fine (n.case_row st word row) → HaveBodies k st.timed (f.case_items row)
    cases-so st word s.end_of-CaseItem w = tt
    cases-so st word (s.more_of-CaseItem a rest) w =
        case-so st word a (f.case_items rest) (cases-so st word rest (right-of (n.case_nodes st word a) (n.case_row st word rest) w)) (left-of (n.case_nodes st word a) (n.case_row st word rest) w)

    case-so : (st : Setting) (word : CaseKeyword) (a : ci.CaseItem) (others : x.CaseItems) → HaveBodies k st.timed others → Fine (n.case_nodes st word a) → HaveBodies k st.timed (f.case_item a others)
    case-so st word (ci.Labels' at labels h row) others u w =
        let as' = flat_map (n.label_nodes st word) labels in
        let bs = n.statement_row st row in
        (labels-so st word labels (left-of as' bs w), first-statement-so st row (right-of as' bs w), u)
    case-so st word (ci.Default' at h row) others u w = (first-statement-so st row w, u)
