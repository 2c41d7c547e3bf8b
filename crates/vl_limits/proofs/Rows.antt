-- Lists inside expressions and left sides.
use Rattle.std.proofs.Common.{◌≡◌, refl, ap, ◌∙◌, ℕ}
use Rattle.std.specs.declared.alloc.Global.{Global}
use Rattle.std.specs.declared.vec.Vec.{Vec}
use Rattle.vl_design.specs.declared.design.Expr.{Expr}
use Rattle.vl_design.specs.declared.design.ExprNode as d
use Rattle.vl_design.specs.declared.design.ExprNode.TheBlock as blk
use Rattle.vl_design.specs.declared.design.Target.{Target}
use Rattle.vl_design.specs.declared.design.TargetNode as t
use Rattle.vl_design.specs.declared.design.TargetNode.TheBlock as tb
use Rattle.vl_design.specs.Syntax.{Cat, Rep, Call, Several}
use Rattle.vl_design.specs.Placed as p
use Rattle.vl_design.specs.Plainly as plain
use Rattle.vl_design.specs.Seen as seen
use Rattle.vl_design.specs.Trees.{exp_of, exps_of, target_of}
use Rattle.vl_limits.specs.Tallies.{targets_of}

row-items : {m : _} (k : d.Row_of-Expr m) → seen.row_exps k ≡ seen.exps_of (d.items-the_row-Expr m k)
row-items d.end_of-Expr = refl
row-items (d.more_of-Expr q v rest) = ap (p.MoreExps (seen.node_exp q v)) (row-items rest)

row-hidden : (v : Vec Expr Global) → seen.row_exps (blk.hidden-the_row-Expr-0 v) ≡ seen.exps_of v.items
row-hidden v = row-items (blk.hidden-the_row-Expr-0 v) ∙ ap seen.exps_of (d.items_hidden-the_row-Expr-0 v)

-- an expression whose node has a list has the tree of the list
pub cat-of : (x : Expr) (v : Vec Expr Global) → x.node ≡ d.Cat v → exp_of x ≡ Cat (exps_of v.items)
cat-of x v h = ap (λ n. plain.exp (seen.node_exp x.place n)) h ∙ ap (λ es. Cat (plain.exps es)) (row-hidden v)

pub rep-of : (x : Expr) (n : ℕ) (v : Vec Expr Global) → x.node ≡ d.Rep n v → exp_of x ≡ Rep n (exps_of v.items)
rep-of x n v h = ap (λ k. plain.exp (seen.node_exp x.place k)) h ∙ ap (λ es. Rep n (plain.exps es)) (row-hidden v)

pub call-of : (x : Expr) (f : ℕ) (v : Vec Expr Global) → x.node ≡ d.Call f v → exp_of x ≡ Call f (exps_of v.items)
call-of x f v h = ap (λ k. plain.exp (seen.node_exp x.place k)) h ∙ ap (λ es. Call f (plain.exps es)) (row-hidden v)

targets-items : {m : _} (k : t.Row_of-Target m) → plain.targets (seen.row_targets k) ≡ targets_of (t.items-the_row-Target m k)
targets-items t.end_of-Target = refl
targets-items (t.more_of-Target q v rest) = rw (targets-items rest) refl

-- a left side that is a concatenation has the tree of its parts
pub list-of : (x : Target) (v : Vec Target Global) → x.node ≡ t.List v → target_of x ≡ Several (targets_of v.items)
list-of x v h =
    ap (λ n. plain.target (seen.node_target x.place n)) h
    ∙ ap Several (targets-items (tb.hidden-the_row-Target-0 v) ∙ ap targets_of (t.items_hidden-the_row-Target-0 v))

pub ruleset rows = (cat-of, rep-of, call-of, list-of)
