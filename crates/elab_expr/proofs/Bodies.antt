-- Statements in the design.
use Rattle.std.proofs.Common.{◌≡◌, refl, ap, sym, ◌∙◌, ℕ, ◌+◌, ◌<◌, ◌≤◌, Bool, List, [], ◌∷◌, ◌++◌, map, length, get_or, take, arith}
use Rattle.std.proofs.lemmas.List.{take_more}
use Rattle.std.specs.declared.alloc.Global.{Global}
use Rattle.std.specs.declared.vec.Vec.{Vec}
use Rattle.vl_base.specs.declared.place.Place.{Place}
use Rattle.vl_design.specs.declared.design.Expr.{Expr}
use Rattle.vl_design.specs.declared.design.SysArg.{SysArg}
use Rattle.vl_design.specs.declared.design.Stmt.{Stmt}
use Rattle.vl_design.specs.declared.design.CaseItem.{CaseItem}
use Rattle.vl_design.specs.declared.design.StmtNode as d
use Rattle.vl_design.specs.declared.design.StmtNode.TheBlock as blk
use Rattle.elab_plain.specs.vl_flat.specs.Surface as x
use Rattle.vl_design.specs.Placed as p
use Rattle.elab_plain.specs.vl_flat.specs.Scopes.{Scope}
use Rattle.elab_plain.specs.vl_flat.specs.Expressions as flat
use Rattle.elab_plain.specs.vl_flat.specs.Statements as spec
use Rattle.vl_design.specs.Seen.{exp_of, exps_of, arg, args_of, node_stm, row_stms, row_items, stm_of}
use Rattle.elab_plain.specs.declared.surface.Ex as e
use Rattle.elab_plain.specs.declared.surface.Left as l
use Rattle.elab_plain.specs.declared.surface.Statement as s
use Rattle.elab_plain.specs.declared.surface.CaseItem as c
use Rattle.elab_plain.specs.Seen.{seen}
use Rattle.elab_plain.specs.SeenStatements.{seen_left, lefts_of, seen_statement, statements_of, item, items_before}
use Rattle.elab_plain.specs.Listed.{of_list}
use Rattle.elab_plain.proofs.StatementTrees.{row_statements-hidden, row_items-hidden}
use Rattle.elab_expr.specs.Listed as g
use Rattle.elab_expr.specs.Walked as n
use Rattle.elab_expr.proofs.Sides.{left-list}
use Rattle.elab_plain.proofs.StatementTrees.{items-append as before-append}

-- ---- rows

row_stms-items : {m : _} (k : d.Row_of-Stmt m) → row_stms k ≡ n.stms_listed (map stm_of (d.items-the_row-Stmt m k))
row_stms-items d.end_of-Stmt = refl
row_stms-items (d.more_of-Stmt q v rest) = ap (p.MoreStms (node_stm q v)) (row_stms-items rest)

row_stms-hidden : (v : Vec Stmt Global) → row_stms (blk.hidden-the_row-Stmt-0 v) ≡ n.stms_listed (map stm_of v.items)
row_stms-hidden v = row_stms-items (blk.hidden-the_row-Stmt-0 v) ∙ ap (λ z. n.stms_listed (map stm_of z)) (d.items_hidden-the_row-Stmt-0 v)

statements-listed : (S : Scope) (as' : List s.Statement) → spec.statements S (statements_of (map seen_statement as')) ≡ n.stms_listed (map (n.seen_stm S) as')
statements-listed S [] = refl
statements-listed S (a ∷ as') = ap (p.MoreStms (n.seen_stm S a)) (statements-listed S as')

-- a row of the statements of a list
pub row-stms : (S : Scope) (v : Vec Stmt Global) (as' : List s.Statement) → map stm_of v.items ≡ map (n.seen_stm S) as' → row_stms (blk.hidden-the_row-Stmt-0 v) ≡ spec.statements S (statements_of (map seen_statement as'))
row-stms S v as' h = row_stms-hidden v ∙ (ap n.stms_listed h ∙ sym (statements-listed S as'))

row_items-items : {m : _} (k : d.Row_of-CaseItem m) → row_items k ≡ n.items_with (d.items-the_row-CaseItem m k) p.NoItems
row_items-items d.end_of-CaseItem = refl
row_items-items (d.more_of-CaseItem labels q v rest) = ap (p.MoreItems (exps_of labels.items) (node_stm q v)) (row_items-items rest)

-- a row of the items of a case
pub items-hidden : (v : Vec CaseItem Global) → row_items (blk.hidden-the_row-CaseItem-1 v) ≡ n.items_with v.items p.NoItems
items-hidden v = row_items-items (blk.hidden-the_row-CaseItem-1 v) ∙ ap (λ z. n.items_with z p.NoItems) (d.items_hidden-the_row-CaseItem-1 v)

-- ---- what is bound

pub block-seen : (q : Place) (v : Vec s.Statement Global) → seen_statement (s.Block q v) ≡ x.Block q (statements_of (map seen_statement v.items))
block-seen q v = ap (x.Block q) (row_statements-hidden v)

pub case-seen : (q : Place) (w : Bool) (a : e.Ex) (v : Vec c.CaseItem Global) → seen_statement (s.Case q w a v) ≡ x.Case q w (seen a) (items_before v.items x.NoItems)
case-seen q w a v = ap (x.Case q w (seen a)) (row_items-hidden v)

-- ---- labels and arguments

exps_of-listed : (xs : List Expr) → exps_of xs ≡ g.listed (map exp_of xs)
exps_of-listed [] = refl
exps_of-listed (a ∷ as') = ap (p.MoreExps (exp_of a)) (exps_of-listed as')

labels-listed : (S : Scope) (w : Bool) (es : List e.Ex) → flat.labels S w (of_list (map seen es)) ≡ g.listed (map (n.seen_label S w) es)
labels-listed S w [] = refl
labels-listed S w (a ∷ as') = ap (p.MoreExps (n.seen_label S w a)) (labels-listed S w as')

pub labels-are : (S : Scope) (w : Bool) (xs : List Expr) (es : List e.Ex) → map exp_of xs ≡ map (n.seen_label S w) es → exps_of xs ≡ flat.labels S w (of_list (map seen es))
labels-are S w xs es h = exps_of-listed xs ∙ (ap g.listed h ∙ sym (labels-listed S w es))

pub args-are : (xs : List SysArg) → args_of xs ≡ g.args_with xs p.NoArgs
args-are [] = refl
args-are (a ∷ as') = ap (arg a) (args-are as')

-- ---- items, step by step

pub items-append : (xs : List CaseItem) (y : CaseItem) (o : p.Items) → n.items_with (xs ++ y ∷ []) o ≡ n.items_with xs (n.item_with y o)
items-append [] y o = refl
items-append (z ∷ zs) y o = ap (n.item_with z) (items-append zs y o)

pub items-more : (xs : List c.CaseItem) (i : ℕ) (y : c.CaseItem) (o : x.CaseItems) → i < length xs → y ≡ get_or xs i y → items_before (take (i + 1) xs) o ≡ items_before (take i xs) (item y o)
items-more xs i y o h is = ap (λ z. items_before z o) (take_more xs i y h) ∙ (before-append (take i xs) (get_or xs i y) o ∙ ap (λ z. items_before (take i xs) (item z o)) (sym is))

-- ---- the first name

among-none : (ls : List l.Left) → length ls < 1 → spec.first_among (lefts_of (map seen_left ls)) ≡ []
among-none [] h = refl
among-none (a ∷ as') h = absurd (omega arith)

among-first : (ls : List l.Left) (y : l.Left) → 1 ≤ length ls → y ≡ get_or ls 0 y → spec.first_among (lefts_of (map seen_left ls)) ≡ spec.first_name (seen_left y)
among-first [] y h is = absurd (omega arith)
among-first (a ∷ as') y h is = ap (λ z. spec.first_name (seen_left z)) (sym is)

pub first-none : (a : l.Left) (q : Place) (v : Vec l.Left Global) (ls : List l.Left) → a ≡ l.List q v → ls ≡ v.items → length ls < 1 → spec.first_name (seen_left a) ≡ []
first-none a q v ls is k h =
    ap (λ z. spec.first_name (seen_left z)) is
    ∙ (ap spec.first_name (left-list q v)
    ∙ (sym (ap (λ z. spec.first_among (lefts_of (map seen_left z))) k) ∙ among-none ls h))

pub first-some : (a : l.Left) (q : Place) (v : Vec l.Left Global) (ls : List l.Left) (y : l.Left) → a ≡ l.List q v → ls ≡ v.items → 1 ≤ length ls → y ≡ get_or ls 0 y → spec.first_name (seen_left a) ≡ spec.first_name (seen_left y)
first-some a q v ls y is k h f =
    ap (λ z. spec.first_name (seen_left z)) is
    ∙ (ap spec.first_name (left-list q v)
    ∙ (sym (ap (λ z. spec.first_among (lefts_of (map seen_left z))) k) ∙ among-first ls y h f))
