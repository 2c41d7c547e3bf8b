-- Left sides and statements without faults: each name is used as what it is.
use Rattle.std.proofs.Common.{List, [], ◌∷◌, ◌++◌}
use Rattle.std.specs.Prelude.{⊤, flat_map}
use Rattle.vl_flat.specs.vl_base.specs.declared.place.Place.{Place}
use Rattle.vl_flat.specs.vl_tree.specs.declared.tree.Expression.{Expression}
use Rattle.vl_flat.specs.vl_tree.specs.declared.tree.Name as nm
use Rattle.vl_flat.specs.vl_tree.specs.declared.tree.SystemCall as y
use Rattle.vl_flat.specs.vl_tree.specs.declared.source_tree.Assignment.{Assignment}
use Rattle.vl_flat.specs.vl_tree.specs.declared.source_tree.CaseKeyword.{CaseKeyword}
use Rattle.vl_flat.specs.vl_tree.specs.declared.source_tree.CaseItem as ci
use Rattle.vl_flat.specs.vl_tree.specs.declared.source_tree.Statement as s
use Rattle.vl_flat.specs.vl_tree.specs.declared.source_tree.Lvalue as l
use Rattle.vl_names.specs.vl_uses.specs.declared.setting.Setting.{Setting}
use Rattle.vl_names.specs.vl_uses.specs.declared.setting.Side.{Side}
use Rattle.vl_names.specs.vl_uses.specs.declared.setting.Side.TheVariants.{Procedural}
use Rattle.vl_names.specs.vl_uses.specs.declared.setting.Usage.TheVariants.{Task}
use Rattle.vl_names.specs.vl_uses.specs.Settings.{constantly, of_index}
use Rattle.vl_names.specs.vl_uses.specs.Nodes as n
use Rattle.vl_names.specs.vl_uses.specs.UseFaults.{Meanings}
use Rattle.vl_flat.specs.Surface as x
use Rattle.vl_flat.specs.Binding as f
use Rattle.vl_sound.proofs.Sides.{UsedAs}
use Rattle.vl_sound.specs.Used.{Classes, IsUsed, AreUsed, IsUsedSide, IsUsedLeft, AreUsedLefts, IsUsedStatement, AreUsedStatements, AreUsedItems}
use Rattle.vl_sound.proofs.Fitting.{Writes, IsFine, Means, part-fits, target-fits}
use Rattle.vl_sound.proofs.ExpressionsOfNamed.{Every, Suits, lefts-so, rights-so, first-so, rest-so, ex-used, selects-used, system-used}
use Rattle.vl_sound.proofs.Wholes.{right-side-used, condition-used, label-used}

module _ (m : Meanings) (k : Classes) (means : Means m k) where
  abbrev pub Fine : List n.Node → Type 0
  Fine as' = Every (IsFine m) as'

  -- parts at any setting
  pub suits : Suits k (IsFine m) (λ s. ⊤)
  suits = record { part = λ s a q fine. part-fits m k means s a q fine; constant = λ s q. tt }

  pub fine-ex : (st : Setting) (v : Expression) → Fine (n.expression_nodes st v) → IsUsed k (f.ex v)
  fine-ex st v w = ex-used k (IsFine m) (λ s. ⊤) suits st tt v w

  pub fine-right-side : (st : Setting) (v : Expression) → Fine (n.right_side_nodes st v) → IsUsedSide k (f.ex v)
  fine-right-side st v w = right-side-used k (IsFine m) (λ s. ⊤) suits st tt v w

  left-of : (as' bs : List n.Node) → Fine (as' ++ bs) → Fine as'
  left-of as' bs w = lefts-so (IsFine m) as' bs w

  right-of : (as' bs : List n.Node) → Fine (as' ++ bs) → Fine bs
  right-of as' bs w = rights-so (IsFine m) as' bs w

  -- ---- left sides

  name-used : (st : Setting) (a : nm.Name) → Writes k (f.named a) → Fine (n.name_nodes st a) → IsUsedLeft k (f.left_named (f.named a))
  unfolding n.name_nodes
  name-used st (nm.Name' at name h row) r w = (r, selects-used k (IsFine m) (λ s. ⊤) suits st tt row w)

  mutual
    unfolding n.lvalue_nodes n.lvalue_row

    pub left-used : (side : Side) (st : Setting) (v : l.Lvalue) → Fine (n.lvalue_nodes side st v) → IsUsedLeft k (f.left v)
    left-used side st (l.Name a) w =
        let b = n.node st (n.target side a) in
        let as' = n.name_nodes (of_index side st) a in
        name-used (of_index side st) a (target-fits m k means side st a (first-so (IsFine m) b as' w)) (rest-so (IsFine m) b as' w)
    left-used side st (l.Concatenation' at h row) w = lefts-used side st row w

    lefts-used : {m' : _} (side : Side) (st : Setting) (row : l.Row_of-Lvalue m') → Fine (n.lvalue_row side st row) → AreUsedLefts k (f.lefts row)
    lefts-used side st l.end_of-Lvalue w = tt
    lefts-used side st (l.more_of-Lvalue a rest) w =
        (left-used side st a (left-of (n.lvalue_nodes side st a) (n.lvalue_row side st rest) w), lefts-used side st rest (right-of (n.lvalue_nodes side st a) (n.lvalue_row side st rest) w))

  pub assignment-used : (side : Side) (st : Setting) (a : Assignment) → Fine (n.assignment_nodes side st a) → IsUsedLeft k (f.left a.target) × IsUsedSide k (f.ex a.value)
  unfolding n.assignment_nodes
  assignment-used side st a w = (
    left-used side st a.target (left-of (n.lvalue_nodes side st a.target) (n.right_side_nodes st a.value) w),
    fine-right-side st a.value (right-of (n.lvalue_nodes side st a.target) (n.right_side_nodes st a.value) w),
  )

  -- ---- statements

  labels-used : (st : Setting) (word : CaseKeyword) (as' : List Expression) → Fine (flat_map (n.label_nodes st word) as') → AreUsed k (f.list_exs as')
  labels-used st word [] w = tt
  labels-used st word (a ∷ as') w = (
    label-used k (IsFine m) (λ s. ⊤) suits st tt word a (left-of (n.label_nodes st word a) (flat_map (n.label_nodes st word) as') w),
    labels-used st word as' (right-of (n.label_nodes st word a) (flat_map (n.label_nodes st word) as') w),
  )

  task-used : (at : Place) (a : y.SystemCall) → UsedAs k Task (f.system a) → IsUsedStatement k (f.task at (f.system a))
  task-used at (y.SystemCall' q name given) u = u

  mutual
    unfolding n.statement_nodes n.otherwise_nodes n.statement_row n.case_row n.case_nodes

    pub statement-used : (st : Setting) (a : s.Statement) → Fine (n.statement_nodes st a) → IsUsedStatement k (f.statement a)
    statement-used st (s.Null at) w = tt
    statement-used st (s.Block' at h row) w = statements-used st row w
    statement-used st (s.If' at test h row otherwise) w =
        let as' = n.condition_nodes st test in
        let bs = n.statement_row st row in
        let both = left-of (as' ++ bs) (n.otherwise_nodes st otherwise) w in
        (condition-used k (IsFine m) (λ s. ⊤) suits st tt test (left-of as' bs both), first-used st row (right-of as' bs both), other-used st otherwise at (right-of (as' ++ bs) (n.otherwise_nodes st otherwise) w))
    statement-used st (s.Case' at word subject h row) w =
        let as' = n.expression_nodes st subject in
        let bs = n.case_row st word row in
        (fine-ex st subject (left-of as' bs w), cases-used st word row (right-of as' bs w))
    statement-used st (s.For' at start test step h row) w =
        let as' = n.assignment_nodes Procedural st start in
        let bs = n.expression_nodes st test in
        let cs = n.assignment_nodes Procedural st step in
        let ds = n.statement_row st row in
        let three = left-of (as' ++ bs ++ cs) ds w in
        let two = left-of (as' ++ bs) cs three in
        let first = assignment-used Procedural st start (left-of as' bs two) in
        let next = assignment-used Procedural st step (right-of (as' ++ bs) cs three) in
        (first.0, first.1, fine-ex st test (right-of as' bs two), next.0, next.1, first-used st row (right-of (as' ++ bs ++ cs) ds w))
    statement-used st (s.Repeat' at count h row) w =
        let as' = n.expression_nodes (constantly st) count in
        let bs = n.statement_row st row in
        (fine-ex (constantly st) count (left-of as' bs w), first-used st row (right-of as' bs w))
    statement-used st (s.Assign at target mark value) w =
        let as' = n.lvalue_nodes Procedural st target in
        let bs = n.right_side_nodes st value in
        (left-used Procedural st target (left-of as' bs w), fine-right-side st value (right-of as' bs w))
    statement-used st (s.System at call) w = task-used at call (system-used k (IsFine m) (λ s. ⊤) suits st tt Task call w)

    other-used : (st : Setting) (o : s.Held-Statement-If-3) (at : Place) → Fine (n.otherwise_nodes st o) → IsUsedStatement k (f.other o at)
    other-used st s.None' at w = tt
    other-used st (s.Some' h row) at w = first-used st row w

    first-used : {m' : _} (st : Setting) (row : s.Row_of-Statement m') → Fine (n.statement_row st row) → IsUsedStatement k (f.first_statement row)
    first-used st s.end_of-Statement w = tt
    first-used st (s.more_of-Statement a rest) w = statement-used st a (left-of (n.statement_nodes st a) (n.statement_row st rest) w)

    statements-used : {m' : _} (st : Setting) (row : s.Row_of-Statement m') → Fine (n.statement_row st row) → AreUsedStatements k (f.statements row)
    statements-used st s.end_of-Statement w = tt
    statements-used st (s.more_of-Statement a rest) w =
        (statement-used st a (left-of (n.statement_nodes st a) (n.statement_row st rest) w), statements-used st rest (right-of (n.statement_nodes st a) (n.statement_row st rest) w))

    cases-used : {m' : _} (st : Setting) (word : CaseKeyword) (row : s.Row_of-CaseItem m') → Fine (n.case_row st word row) → AreUsedItems k (f.case_items row)
    cases-used st word s.end_of-CaseItem w = tt
    cases-used st word (s.more_of-CaseItem a rest) w =
        case-used st word a (f.case_items rest) (cases-used st word rest (right-of (n.case_nodes st word a) (n.case_row st word rest) w)) (left-of (n.case_nodes st word a) (n.case_row st word rest) w)

    case-used : (st : Setting) (word : CaseKeyword) (a : ci.CaseItem) (others : x.CaseItems) → AreUsedItems k others → Fine (n.case_nodes st word a) → AreUsedItems k (f.case_item a others)
    case-used st word (ci.Labels' at labels h row) others u w =
        let as' = flat_map (n.label_nodes st word) labels in
        let bs = n.statement_row st row in
        (labels-used st word labels (left-of as' bs w), first-used st row (right-of as' bs w), u)
    case-used st word (ci.Default' at h row) others u w = (first-used st row w, u)
