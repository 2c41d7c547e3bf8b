-- Lists of expressions and of arguments with numbers put in.
use Rattle.std.proofs.Common.{◌≡◌, refl, ap, sym, ◌∙◌, ℕ, ◌+◌, ◌<◌, List, [], ◌∷◌, ◌++◌, map, length, get_or, take}
use Rattle.std.proofs.lemmas.List.{take_more}
use Rattle.std.specs.declared.alloc.Global.{Global}
use Rattle.std.specs.declared.vec.Vec.{Vec}
use Rattle.vl_design.specs.declared.design.Expr.{Expr}
use Rattle.vl_design.specs.declared.design.SysArg.{SysArg}
use Rattle.vl_design.specs.declared.design.ExprNode as d
use Rattle.vl_design.specs.declared.design.ExprNode.TheBlock as blk
use Rattle.vl_design.specs.Syntax.{Row}
use Rattle.vl_design.specs.Placed as p
use Rattle.vl_design.specs.Seen.{exp_of, exps_of, arg, args_of, node_exp, row_exps, row_args}
use Rattle.vl_loops.specs.Placed.{exps_put, args_put}
use Rattle.vl_unroll.specs.Listed.{put_of, args_with}

listed : List p.Exp → p.Exps
listed [] = p.NoExps
listed (e ∷ es) = p.MoreExps e (listed es)

exps_listed : (xs : List Expr) → exps_of xs ≡ listed (map exp_of xs)
unfolding listed
exps_listed [] = refl
exps_listed (x ∷ xs) = ap (p.MoreExps (exp_of x)) (exps_listed xs)

puts_listed : (rows : List Row) (values : List (List ℕ)) (xs : List Expr) → exps_put rows values (exps_of xs) ≡ listed (map (put_of rows values) xs)
unfolding listed
puts_listed rows values [] = refl
puts_listed rows values (x ∷ xs) = ap (p.MoreExps (put_of rows values x)) (puts_listed rows values xs)

row_exps-items : {m : _} (k : d.Row_of-Expr m) → row_exps k ≡ exps_of (d.items-the_row-Expr m k)
row_exps-items d.end_of-Expr = refl
row_exps-items (d.more_of-Expr q v rest) = ap (p.MoreExps (node_exp q v)) (row_exps-items rest)

row_exps-hidden : (v : Vec Expr Global) → row_exps (blk.hidden-the_row-Expr-0 v) ≡ exps_of v.items
row_exps-hidden v = row_exps-items (blk.hidden-the_row-Expr-0 v) ∙ ap exps_of (d.items_hidden-the_row-Expr-0 v)

pub row_put : (rows : List Row) (values : List (List ℕ)) (v w : Vec Expr Global) → map exp_of v.items ≡ map (put_of rows values) w.items → row_exps (blk.hidden-the_row-Expr-0 v) ≡ exps_put rows values (row_exps (blk.hidden-the_row-Expr-0 w))
row_put rows values v w h =
    row_exps-hidden v ∙ (exps_listed v.items ∙ (ap listed h ∙ (sym (puts_listed rows values w.items) ∙ ap (exps_put rows values) (sym (row_exps-hidden w)))))

row_args-items : {m : _} (k : d.Row_of-SysArg m) → row_args k ≡ args_with (d.items-the_row-SysArg m k) p.NoArgs
row_args-items d.end_of-SysArg = refl
row_args-items (d.more_of-SysArg v rest) = ap (arg v) (row_args-items rest)

row_args-hidden : (v : Vec SysArg Global) → row_args (blk.hidden-the_row-SysArg-1 v) ≡ args_with v.items p.NoArgs
row_args-hidden v = row_args-items (blk.hidden-the_row-SysArg-1 v) ∙ ap (λ z. args_with z p.NoArgs) (d.items_hidden-the_row-SysArg-1 v)

pub args_row_put : (rows : List Row) (values : List (List ℕ)) (v w : Vec SysArg Global) → ((others : p.Args) → args_with v.items (args_put rows values others) ≡ args_put rows values (args_with w.items others)) →
    row_args (blk.hidden-the_row-SysArg-1 v) ≡ args_put rows values (row_args (blk.hidden-the_row-SysArg-1 w))
args_row_put rows values v w h = row_args-hidden v ∙ (h p.NoArgs ∙ ap (args_put rows values) (sym (row_args-hidden w)))

pub args-append : (xs : List SysArg) (y : SysArg) (o : p.Args) → args_with (xs ++ y ∷ []) o ≡ args_with xs (arg y o)
args-append [] y o = refl
args-append (z ∷ zs) y o = ap (arg z) (args-append zs y o)

pub args-more : (xs : List SysArg) (i : ℕ) (y : SysArg) (o : p.Args) → i < length xs → y ≡ get_or xs i y → args_with (take (i + 1) xs) o ≡ args_with (take i xs) (arg y o)
args-more xs i y o h is = ap (λ z. args_with z o) (take_more xs i y h) ∙ (args-append (take i xs) (get_or xs i y) o ∙ ap (λ z. args_with (take i xs) (arg z o)) (sym is))

pub exps-put : (rows : List Row) (values : List (List ℕ)) (xs ys : List Expr) → map exp_of xs ≡ map (put_of rows values) ys → exps_of xs ≡ exps_put rows values (exps_of ys)
exps-put rows values xs ys h = exps_listed xs ∙ (ap listed h ∙ sym (puts_listed rows values ys))

args_of-with : (xs : List SysArg) → args_of xs ≡ args_with xs p.NoArgs
args_of-with [] = refl
args_of-with (x ∷ xs) = ap (arg x) (args_of-with xs)

pub args-put : (rows : List Row) (values : List (List ℕ)) (xs ys : List SysArg) → ((others : p.Args) → args_with xs (args_put rows values others) ≡ args_put rows values (args_with ys others)) → args_of xs ≡ args_put rows values (args_of ys)
args-put rows values xs ys h = args_of-with xs ∙ (h p.NoArgs ∙ ap (args_put rows values) (sym (args_of-with ys)))
