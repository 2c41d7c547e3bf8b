-- The parts of statements, by what the walks over them look at.
use Rattle.std.proofs.Common.{◌≡◌, List, [], ◌∷◌, ◌++◌, append-nil, Option, Some, None, refl, ap}
use Rattle.std.proofs.lemmas.Grind.{common_steps}
use Rattle.std.specs.List.{flat_map}
use Rattle.vl_tree.specs.vl_base.specs.declared.place.Place.{Place}
use Rattle.vl_tree.specs.declared.tree.Expression.{Expression}
use Rattle.vl_tree.specs.declared.tree.Name.{Name}
use Rattle.vl_tree.specs.declared.tree.SystemCall.{SystemCall}
use Rattle.vl_tree.specs.declared.source_tree.Assignment.{Assignment}
use Rattle.vl_tree.specs.declared.source_tree.AssignMark.{AssignMark}
use Rattle.vl_tree.specs.declared.source_tree.CaseKeyword.{CaseKeyword}
use Rattle.vl_tree.specs.declared.source_tree.CaseItem.{CaseItem}
use Rattle.vl_tree.specs.declared.source_tree.CaseItem.TheVariants as ci
use Rattle.vl_tree.specs.declared.source_tree.Statement.{Statement}
use Rattle.vl_tree.specs.declared.source_tree.Statement.TheVariants as s
use Rattle.vl_tree.specs.declared.source_tree.CaseItem.TheBlock as t
use Rattle.vl_tree.specs.declared.source_tree.Lvalue.{Lvalue}
use Rattle.vl_tree.specs.declared.source_tree.Lvalue.TheVariants as l
use Rattle.vl_tree.specs.declared.source_tree.Lvalue.TheBlock as lt
use Rattle.vl_uses.specs.declared.setting.Setting.{Setting}
use Rattle.vl_uses.specs.declared.setting.Side.{Side}
use Rattle.vl_uses.specs.declared.setting.Side.TheVariants.{Procedural}
use Rattle.vl_uses.specs.declared.setting.Usage.TheVariants.{Task}
use Rattle.vl_uses.specs.Settings.{constantly, of_index}
use Rattle.vl_uses.specs.Nodes as n
use Rattle.vl_uses.proofs.ExpressionParts.{name-parts}

-- ---- left sides

lvalue-hidden : (side : Side) (k : Setting) (parts : List Lvalue) → n.lvalue_row side k (lt.hidden-the_row-Lvalue-0 parts) ≡ flat_map (n.lvalue_nodes side k) parts
unfolding n.lvalue_row lt.hidden-the_row-Lvalue-0 denote.Hole.Carrier.hidden
lvalue-hidden side k [] = refl
lvalue-hidden side k (x ∷ parts) = ap (λ r. n.lvalue_nodes side k x ++ r) (lvalue-hidden side k parts)

pub nodes-Concatenation : (side : Side) (k : Setting) (at : Place) (parts : List Lvalue) → n.lvalue_nodes side k (l.Concatenation at parts) ≡ flat_map (n.lvalue_nodes side k) parts
unfolding n.lvalue_nodes
nodes-Concatenation side k at parts = lvalue-hidden side k parts

pub nodes-Name : (side : Side) (k : Setting) (a : Name) → n.lvalue_nodes side k (l.Name a) ≡ n.node k (n.target side a) ∷ n.name_nodes (of_index side k) a
unfolding n.lvalue_nodes
nodes-Name side k a = refl

-- ---- statements

one-hidden : (k : Setting) (a : Statement) → n.statement_row k (t.hidden-the_row-Statement-0 a) ≡ n.statement_nodes k a
unfolding n.statement_row t.hidden-the_row-Statement-0 denote.Hole.Carrier.hidden
one-hidden k a = append-nil (n.statement_nodes k a)

row-hidden : (k : Setting) (as' : List Statement) → n.statement_row k (t.hidden-the_row-Statement-1 as') ≡ flat_map (n.statement_nodes k) as'
unfolding n.statement_row t.hidden-the_row-Statement-1 denote.Hole.Carrier.hidden
row-hidden k [] = refl
row-hidden k (x ∷ as') = ap (λ r. n.statement_nodes k x ++ r) (row-hidden k as')

case-hidden : (k : Setting) (keyword : CaseKeyword) (as' : List CaseItem) → n.case_row k keyword (t.hidden-the_row-CaseItem-2 as') ≡ flat_map (n.case_nodes k keyword) as'
unfolding n.case_row t.hidden-the_row-CaseItem-2 denote.Hole.Carrier.hidden
case-hidden k keyword [] = refl
case-hidden k keyword (x ∷ as') = ap (λ r. n.case_nodes k keyword x ++ r) (case-hidden k keyword as')

pub nodes-Null : (k : Setting) (at : Place) → n.statement_nodes k (s.Null at) ≡ []
unfolding n.statement_nodes
nodes-Null k at = refl

pub nodes-Block : (k : Setting) (at : Place) (as' : List Statement) → n.statement_nodes k (s.Block at as') ≡ flat_map (n.statement_nodes k) as'
unfolding n.statement_nodes
nodes-Block k at as' = row-hidden k as'

pub nodes-If : (k : Setting) (at : Place) (test : Expression) (a : Statement) (o : Option Statement) → n.statement_nodes k (s.If at test a o) ≡ n.condition_nodes k test ++ n.statement_nodes k a ++ n.given (n.statement_nodes k) o
unfolding n.statement_nodes
nodes-If k at test a None = rw (one-hidden k a) refl
nodes-If k at test a (Some b) = rw (one-hidden k a, one-hidden k b) refl

pub nodes-Case : (k : Setting) (at : Place) (keyword : CaseKeyword) (subject : Expression) (items : List CaseItem) → n.statement_nodes k (s.Case at keyword subject items) ≡ n.expression_nodes k subject ++ flat_map (n.case_nodes k keyword) items
unfolding n.statement_nodes
nodes-Case k at keyword subject items = rw (case-hidden k keyword items) refl

pub nodes-For : (k : Setting) (at : Place) (first : Assignment) (test : Expression) (step : Assignment) (a : Statement) → n.statement_nodes k (s.For at first test step a)
    ≡ n.assignment_nodes Procedural k first ++ n.expression_nodes k test ++ n.assignment_nodes Procedural k step ++ n.statement_nodes k a
unfolding n.statement_nodes
nodes-For k at first test step a = rw (one-hidden k a) refl

pub nodes-Repeat : (k : Setting) (at : Place) (count : Expression) (a : Statement) → n.statement_nodes k (s.Repeat at count a) ≡ n.expression_nodes (constantly k) count ++ n.statement_nodes k a
unfolding n.statement_nodes
nodes-Repeat k at count a = rw (one-hidden k a) refl

pub nodes-Assign : (k : Setting) (at : Place) (left : Lvalue) (mark : AssignMark) (right : Expression) → n.statement_nodes k (s.Assign at left mark right) ≡ n.lvalue_nodes Procedural k left ++ n.right_side_nodes k right
unfolding n.statement_nodes
nodes-Assign k at left mark right = refl

pub nodes-System : (k : Setting) (at : Place) (a : SystemCall) → n.statement_nodes k (s.System at a) ≡ n.system_nodes k Task a
unfolding n.statement_nodes
nodes-System k at a = refl

pub nodes-Labels : (k : Setting) (keyword : CaseKeyword) (at : Place) (labels : List Expression) (a : Statement) → n.case_nodes k keyword (ci.Labels at labels a) ≡ flat_map (n.label_nodes k keyword) labels ++ n.statement_nodes k a
unfolding n.case_nodes
nodes-Labels k keyword at labels a = rw (one-hidden k a) refl

pub nodes-Default : (k : Setting) (keyword : CaseKeyword) (at : Place) (a : Statement) → n.case_nodes k keyword (ci.Default at a) ≡ n.statement_nodes k a
unfolding n.case_nodes
nodes-Default k keyword at a = one-hidden k a

pub ruleset statements = (common_steps, name-parts, nodes-Concatenation, nodes-Name, nodes-Null, nodes-Block, nodes-If, nodes-Case, nodes-For, nodes-Repeat, nodes-Assign, nodes-System, nodes-Labels, nodes-Default)
