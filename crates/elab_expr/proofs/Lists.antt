-- Lists of expressions in the design.
use Rattle.std.proofs.Common.{◌≡◌, refl, ap, sym, ◌∙◌, ℕ, ◌+◌, ◌<◌, ◌≤◌, Bool, true, false, List, [], ◌∷◌, ◌++◌, map, length, get_or, take, drop}
use Rattle.std.specs.Prelude.{Option, codes}
use Rattle.std.specs.Str.{bytes_eq}
use Rattle.std.proofs.lemmas.Grind.{common_steps}
use Rattle.std.proofs.lemmas.List.{drop_all, take_more, at_drop_more}
use Rattle.std.specs.declared.alloc.Global.{Global}
use Rattle.std.specs.declared.vec.Vec.{Vec}
use Rattle.vl_base.specs.declared.place.Place.{Place}
use Rattle.vl_design.specs.declared.design.Expr.{Expr}
use Rattle.vl_design.specs.declared.design.SysArg.{SysArg}
use Rattle.vl_design.specs.declared.design.ExprNode as d
use Rattle.vl_design.specs.declared.design.ExprNode.TheBlock as blk
use Rattle.elab_plain.specs.vl_flat.specs.Surface as x
use Rattle.vl_design.specs.Placed as p
use Rattle.elab_plain.specs.vl_flat.specs.Scopes.{Scope, range_of, number_of}
use Rattle.elab_plain.specs.vl_flat.specs.declared.binding.Binding.{Binding}
use Rattle.elab_plain.specs.vl_flat.specs.Expressions.{is_memory, whole, called_system}
use Rattle.vl_design.specs.Seen.{exp_of, arg, node_exp, row_exps, row_args}
use Rattle.elab_plain.specs.declared.surface.Ex.{Ex}
use Rattle.elab_plain.specs.declared.surface.Select.{Select}
use Rattle.elab_plain.specs.declared.surface.Argument.{Argument}
use Rattle.elab_plain.specs.Seen.{seen, select, argument, selects_before, args_before}
use Rattle.elab_plain.specs.Listed.{of_list}
use Rattle.elab_plain.proofs.Walks.{named-seen, joined-seen, called-seen, system-seen}
use Rattle.elab_plain.specs.vl_flat.specs.Expressions as flat
use Rattle.elab_expr.specs.Listed as n
use Rattle.elab_plain.proofs.Walks.{args-append as before-append}

row_exps-items : {m : _} (k : d.Row_of-Expr m) → row_exps k ≡ n.listed (map exp_of (d.items-the_row-Expr m k))
row_exps-items d.end_of-Expr = refl
row_exps-items (d.more_of-Expr q v rest) = ap (p.MoreExps (node_exp q v)) (row_exps-items rest)

pub row_exps-hidden : (v : Vec Expr Global) → row_exps (blk.hidden-the_row-Expr-0 v) ≡ n.listed (map exp_of v.items)
row_exps-hidden v = row_exps-items (blk.hidden-the_row-Expr-0 v) ∙ ap (λ z. n.listed (map exp_of z)) (d.items_hidden-the_row-Expr-0 v)

row_args-items : {m : _} (k : d.Row_of-SysArg m) → row_args k ≡ n.args_with (d.items-the_row-SysArg m k) p.NoArgs
row_args-items d.end_of-SysArg = refl
row_args-items (d.more_of-SysArg v rest) = ap (arg v) (row_args-items rest)

pub row_args-hidden : (v : Vec SysArg Global) → row_args (blk.hidden-the_row-SysArg-1 v) ≡ n.args_with v.items p.NoArgs
row_args-hidden v = row_args-items (blk.hidden-the_row-SysArg-1 v) ∙ ap (λ z. n.args_with z p.NoArgs) (d.items_hidden-the_row-SysArg-1 v)

pub exps-listed : (S : Scope) (es : List Ex) → flat.exps S (of_list (map seen es)) ≡ n.listed (map (n.seen_exp S) es)
exps-listed S [] = refl
exps-listed S (e ∷ es) = ap (p.MoreExps (n.seen_exp S e)) (exps-listed S es)

-- a row of the expressions of a list
pub row-exps : (S : Scope) (v : Vec Expr Global) (es : List Ex) → map exp_of v.items ≡ map (n.seen_exp S) es → row_exps (blk.hidden-the_row-Expr-0 v) ≡ flat.exps S (of_list (map seen es))
row-exps S v es h = row_exps-hidden v ∙ (ap n.listed h ∙ sym (exps-listed S es))

-- ---- one by one

pub selects-step : (ss : List Select) (i : ℕ) (y : Select) (o : x.Selects) → i < length ss → y ≡ get_or ss i y → selects_before (drop i ss) o ≡ select y (selects_before (drop (i + 1) ss) o)
selects-step ss i y o h is = at_drop_more (λ z. selects_before z o) ss i y h ∙ ap (λ z. select z (selects_before (drop (i + 1) ss) o)) (sym is)

pub args-with-append : (xs : List SysArg) (y : SysArg) (o : p.Args) → n.args_with (xs ++ y ∷ []) o ≡ n.args_with xs (arg y o)
args-with-append [] y o = refl
args-with-append (z ∷ zs) y o = ap (arg z) (args-with-append zs y o)

pub before-more : (xs : List Argument) (i : ℕ) (y : Argument) (o : x.Args) → i < length xs → y ≡ get_or xs i y → args_before (take (i + 1) xs) o ≡ args_before (take i xs) (argument y o)
before-more xs i y o h is = ap (λ z. args_before z o) (take_more xs i y h) ∙ (before-append (take i xs) (get_or xs i y) o ∙ ap (λ z. args_before (take i xs) (argument z o)) (sym is))

pub selects-end : (ss : List Select) (i : ℕ) (o : x.Selects) → length ss ≤ i → selects_before (drop i ss) o ≡ o
selects-end ss i o h = ap (λ z. selects_before z o) (drop_all i ss h)

-- a name that is no memory's, and the word of a memory
pub named-plain : (S : Scope) (at : Place) (b : Option Binding) (ss : x.Selects) → is_memory b ≡ false → n.named S at b ss ≡ n.selected S at (range_of b) (whole at b) ss
named-plain S at b ss h = rw h refl

pub named-word : (S : Scope) (at : Place) (b : Option Binding) (q : Place) (i : x.Ex) (ss : x.Selects) → is_memory b ≡ true → n.named S at b (x.Index q i ss) ≡ n.selected S at (range_of b) (p.Word at (number_of b) (flat.exp S i)) ss
named-word S at b q i ss h = rw h refl

-- a system call that is a node as it is
pub system-is : (at : Place) (t : List ℕ) (f : p.Exp) (as' : p.Args) → bytes_eq t (codes "$signed") ≡ false → bytes_eq t (codes "$unsigned") ≡ false → bytes_eq t (codes "$time") ≡ false → called_system at t f as' ≡ p.Sys at t as'
system-is at t f as' a b c = rw (a, b, c) refl

pub other-word : (r : Bool) (a t b w : List ℕ) → r ≡ bytes_eq a b → a ≡ t → b ≡ w → r ≡ false → bytes_eq t w ≡ false
other-word r a t b w e h k d = sym (ap (λ z. bytes_eq z w) h) ∙ (sym (ap (bytes_eq a) k) ∙ (sym e ∙ d))

pub ruleset lists = (common_steps, row-exps, joined-seen, called-seen, named-seen, system-seen)
