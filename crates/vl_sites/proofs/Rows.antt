-- Lists inside expressions, left sides and statements, and lists of sites one after another.
use Rattle.std.proofs.Common.{◌≡◌, refl, sym, ap, ◌∙◌, append_assoc, ℕ, Bool, List}
use Rattle.std.specs.Prelude.{◌++◌}
use Rattle.std.specs.declared.alloc.Global.{Global}
use Rattle.std.specs.declared.vec.Vec.{Vec}
use Rattle.vl_design.specs.declared.design.CaseItem.{CaseItem}
use Rattle.vl_design.specs.declared.design.Expr.{Expr}
use Rattle.vl_design.specs.declared.design.ExprNode as d
use Rattle.vl_design.specs.declared.design.ExprNode.TheBlock as blk
use Rattle.vl_design.specs.declared.design.Stmt.{Stmt}
use Rattle.vl_design.specs.declared.design.StmtNode as s
use Rattle.vl_design.specs.declared.design.StmtNode.TheBlock as sb
use Rattle.vl_design.specs.declared.design.SysCall.{SysCall}
use Rattle.vl_design.specs.declared.design.Target.{Target}
use Rattle.vl_design.specs.declared.design.TargetNode as t
use Rattle.vl_design.specs.declared.design.TargetNode.TheBlock as tb
use Rattle.vl_design.specs.Placed as p
use Rattle.vl_design.specs.Seen as seen
use Rattle.vl_design.proofs.TreeLemmas.{placed-Seq}
use Rattle.vl_sites.specs.Sites as z
use Rattle.vl_sites.specs.Lists.{targets_of, items_of}

row-items : {m : _} (k : d.Row_of-Expr m) → seen.row_exps k ≡ seen.exps_of (d.items-the_row-Expr m k)
row-items d.end_of-Expr = refl
row-items (d.more_of-Expr q v rest) = ap (p.MoreExps (seen.node_exp q v)) (row-items rest)

row-hidden : (v : Vec Expr Global) → seen.row_exps (blk.hidden-the_row-Expr-0 v) ≡ seen.exps_of v.items
row-hidden v = row-items (blk.hidden-the_row-Expr-0 v) ∙ ap seen.exps_of (d.items_hidden-the_row-Expr-0 v)

-- an expression whose node has a list has the tree of the list
pub cat-of : (x : Expr) (v : Vec Expr Global) → x.node ≡ d.Cat v → seen.exp_of x ≡ p.Cat x.place (seen.exps_of v.items)
cat-of x v h = ap (seen.node_exp x.place) h ∙ ap (p.Cat x.place) (row-hidden v)

pub rep-of : (x : Expr) (n : ℕ) (v : Vec Expr Global) → x.node ≡ d.Rep n v → seen.exp_of x ≡ p.Rep x.place n (seen.exps_of v.items)
rep-of x n v h = ap (seen.node_exp x.place) h ∙ ap (p.Rep x.place n) (row-hidden v)

pub call-of : (x : Expr) (f : ℕ) (v : Vec Expr Global) → x.node ≡ d.Call f v → seen.exp_of x ≡ p.Call x.place f (seen.exps_of v.items)
call-of x f v h = ap (seen.node_exp x.place) h ∙ ap (p.Call x.place f) (row-hidden v)

targets-items : {m : _} (k : t.Row_of-Target m) → seen.row_targets k ≡ targets_of (t.items-the_row-Target m k)
targets-items t.end_of-Target = refl
targets-items (t.more_of-Target q v rest) = ap (p.MoreTargets (seen.node_target q v)) (targets-items rest)

pub list-of : (x : Target) (v : Vec Target Global) → x.node ≡ t.List v → seen.target_of x ≡ p.Several x.place (targets_of v.items)
list-of x v h =
    ap (seen.node_target x.place) h
    ∙ ap (p.Several x.place) (targets-items (tb.hidden-the_row-Target-0 v) ∙ ap targets_of (t.items_hidden-the_row-Target-0 v))

row_items-items : {n : _} (k : s.Row_of-CaseItem n) → seen.row_items k ≡ items_of (s.items-the_row-CaseItem n k)
row_items-items s.end_of-CaseItem = refl
row_items-items (s.more_of-CaseItem labels q x rest) = ap (p.MoreItems (seen.exps_of labels.items) (seen.node_stm q x)) (row_items-items rest)

pub case-of : (x : Stmt) (e : Expr) (v : Vec CaseItem Global) (wild : Bool) → x.node ≡ s.Case e v wild → seen.stm_of x ≡ p.Case x.place (seen.exp_of e) (items_of v.items) wild
case-of x e v wild h =
    ap (seen.node_stm x.place) h
    ∙ ap (λ z. p.Case x.place (seen.exp_of e) z wild) (row_items-items (sb.hidden-the_row-CaseItem-1 v) ∙ ap items_of (s.items_hidden-the_row-CaseItem-1 v))

args-items : {m : _} (r : d.Row_of-SysArg m) → seen.row_args r ≡ seen.args_of (d.items-the_row-SysArg m r)
args-items d.end_of-SysArg = refl
args-items (d.more_of-SysArg x rest) = ap (seen.arg x) (args-items rest)

pub sys-of : (x : Expr) (call : SysCall) → x.node ≡ d.Sys call → seen.exp_of x ≡ p.Sys x.place call.name (seen.args_of call.args.items)
sys-of x call h =
    ap (seen.node_exp x.place) h
    ∙ ap (p.Sys x.place call.name) (args-items (blk.hidden-the_row-SysArg-1 call.args) ∙ ap seen.args_of (d.items_hidden-the_row-SysArg-1 call.args))

pub ruleset rows = (cat-of, rep-of, call-of, list-of, sys-of)

pub ruleset lists = (case-of, placed-Seq)

-- what a case adds
pub case-adds : (x : Stmt) (e : Expr) (v : Vec CaseItem Global) (wild : Bool) (list : List CaseItem) (old mid : List z.Site) → x.node ≡ s.Case e v wild → list ≡ v.items
    → mid ≡ old ++ z.exp_sites (seen.exp_of e) → mid ++ z.items_sites (items_of list) ≡ old ++ z.sites (seen.stm_of x)
case-adds x e v wild list old mid h k a =
    ap (λ m. m ++ z.items_sites (items_of list)) a
    ∙ (append_assoc old (z.exp_sites (seen.exp_of e)) (z.items_sites (items_of list))
    ∙ (ap (λ l. old ++ (z.exp_sites (seen.exp_of e) ++ z.items_sites (items_of l))) k ∙ ap (λ a. old ++ z.sites a) (sym (case-of x e v wild h))))
