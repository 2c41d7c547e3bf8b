-- Each node at its own width and sign: lists.
use Rattle.std.proofs.Common.{◌≡◌, ◌<◌, ◌≤◌, ◌+◌, ◌*◌, ℕ, zero, suc, false, List, [], ◌∷◌, ◌++◌, map, length, take, drop, get_or, refl, sym, ap, ◌∙◌, arith, subst, Option, Some, None, suc-mul, add-one}
use Rattle.std.specs.Prelude.{slice_get, option_map}
use Rattle.std.proofs.lemmas.List.{length-map, get_or-map}
use Rattle.std.proofs.lemmas.Option.{slice_get-map, slice_get_within, slice_get-get_or}
use Rattle.std.specs.declared.alloc.Global.{Global}
use Rattle.std.specs.declared.vec.Vec.{Vec}
use Rattle.vl_design.specs.declared.design.Expr.{Expr}
use Rattle.vl_design.specs.declared.design.ExprNode as d
use Rattle.vl_design.specs.declared.design.ExprNode.TheBlock as block
use Rattle.vl_design.specs.declared.design.Func.{Func}
use Rattle.vl_design.specs.declared.design.Form.{Form}
use Rattle.vl_design.specs.declared.sized.SizedExpr.{SizedExpr}
use Rattle.vl_design.specs.declared.sized.SizedNode as s
use Rattle.vl_design.specs.Placed as p
use Rattle.vl_design.specs.Plainly as plain
use Rattle.vl_design.specs.Seen as seen
use Rattle.vl_design.specs.Syntax.{Cat, Rep, Call, Fun}
use Rattle.vl_design.specs.Sized as z
use Rattle.vl_design.specs.Sized.{Sized, At, Several, sized_of, node_of}
use Rattle.vl_design.specs.Trees.{exp_of, exps_of, fun_of}
use Rattle.vl_design.specs.Width.{Names, form, total_width, unsigned, result_form, input_widths, input_widths_of, signal_form, rows_in}
use Rattle.vl_design.specs.Sound.{IsSoundExp, IsWidth, Takes, count_of}
use Rattle.vl_width.specs.Nodes.{nodes, all_nodes}
use Rattle.vl_width.specs.Sizing.{own, own_parts, own_arguments}
use Rattle.vl_width.specs.Read.{own_of, at_input, at_inputs, widths_together, AreAllSound}
use Rattle.vl_width.proofs.Rows.{listed, several-hidden}
pub use Rattle.vl_design.proofs.Shared.{many-count, function-there as call-there, repeated-narrow as total-narrow}

-- ---- expressions that have a list

row-items : {m : _} (k : d.Row_of-Expr m) → seen.row_exps k ≡ seen.exps_of (d.items-the_row-Expr m k)
row-items d.end_of-Expr = refl
row-items (d.more_of-Expr q v rest) = ap (p.MoreExps (seen.node_exp q v)) (row-items rest)

row-hidden : (v : Vec Expr Global) → plain.exps (seen.row_exps (block.hidden-the_row-Expr-0 v)) ≡ exps_of v.items
row-hidden v = ap plain.exps (row-items (block.hidden-the_row-Expr-0 v) ∙ ap seen.exps_of (d.items_hidden-the_row-Expr-0 v))

pub exp-Cat : (x : Expr) (v : Vec Expr Global) → x.node ≡ d.Cat v → exp_of x ≡ Cat (exps_of v.items)
exp-Cat x v h = ap (λ n. plain.exp (seen.node_exp x.place n)) h ∙ ap Cat (row-hidden v)

pub exp-Rep : (x : Expr) (n : ℕ) (v : Vec Expr Global) → x.node ≡ d.Rep n v → exp_of x ≡ Rep n (exps_of v.items)
exp-Rep x n v h = ap (λ n. plain.exp (seen.node_exp x.place n)) h ∙ ap (Rep n) (row-hidden v)

pub exp-Call : (x : Expr) (k : ℕ) (v : Vec Expr Global) → x.node ≡ d.Call k v → exp_of x ≡ Call k (exps_of v.items)
exp-Call x k v h = ap (λ n. plain.exp (seen.node_exp x.place n)) h ∙ ap (Call k) (row-hidden v)

pub sound-item : (names : Names) (es : List Expr) (i : ℕ) (x : Expr) → AreAllSound names es → i < length es → IsSoundExp names (exp_of (get_or es i x))
sound-item names [] i x h l = absurd (omega arith)
sound-item names (e ∷ es) zero x h l = h.0
sound-item names (e ∷ es) (suc i) x h l = sound-item names es i x h.1 (omega arith)

-- ---- widths together

pub widths-own : (names : Names) (es : List Expr) → widths_together (map (own_of names) es) ≡ total_width names (exps_of es)
widths-own names [] = refl
widths-own names (e ∷ es) = ap (λ n. (form names (exp_of e)).width + n) (widths-own names es)

-- ---- lists of sized expressions

parts-listed : (names : Names) (es : List Expr) → own_parts names (exps_of es) ≡ listed (map (own_of names) es)
parts-listed names [] = refl
parts-listed names (e ∷ es) = ap (z.MoreSized (own_of names e)) (parts-listed names es)

arguments-listed : (names : Names) (es : List Expr) (ws : List ℕ) → own_arguments names (exps_of es) ws ≡ listed (at_inputs (map (own_of names) es) ws)
arguments-listed names [] ws = refl
arguments-listed names (e ∷ es) [] = refl
arguments-listed names (e ∷ es) (w ∷ ws) = ap (z.MoreSized (at_input (own_of names e) w)) (arguments-listed names es ws)

pub own-Cat : (names : Names) (x : Expr) (v : Vec Expr Global) (parts : Vec SizedExpr Global) (f : Form) (total : ℕ) → x.node ≡ d.Cat v
    → map sized_of parts.items ≡ map (own_of names) v.items → f ≡ unsigned total → total ≡ widths_together (map sized_of parts.items)
    → At f.width f.signed (node_of (s.Cat parts)) ≡ own_of names x
own-Cat names x v parts f total h g e t =
    let w : total ≡ total_width names (exps_of v.items) = t ∙ (ap widths_together g ∙ widths-own names v.items) in
    let row = several-hidden parts ∙ (ap listed g ∙ sym (parts-listed names v.items)) in
    ap (λ (f : Form). At f.width f.signed (node_of (s.Cat parts))) e
    ∙ (ap (λ n. At n false (node_of (s.Cat parts))) w ∙ (ap (λ xs. At (total_width names (exps_of v.items)) false (z.Cat xs)) row ∙ sym (ap (own names) (exp-Cat x v h))))

pub own-Rep : (names : Names) (x : Expr) (n : ℕ) (v : Vec Expr Global) (parts : Vec SizedExpr Global) (f : Form) (total : ℕ) → x.node ≡ d.Rep n v
    → map sized_of parts.items ≡ map (own_of names) v.items → f ≡ unsigned (n * total) → total ≡ widths_together (map sized_of parts.items)
    → At f.width f.signed (node_of (s.Rep n parts)) ≡ own_of names x
own-Rep names x n v parts f total h g e t =
    let w : total ≡ total_width names (exps_of v.items) = t ∙ (ap widths_together g ∙ widths-own names v.items) in
    let row = several-hidden parts ∙ (ap listed g ∙ sym (parts-listed names v.items)) in
    ap (λ (f : Form). At f.width f.signed (node_of (s.Rep n parts))) e
    ∙ (ap (λ t. At (n * t) false (node_of (s.Rep n parts))) w ∙ (ap (λ xs. At (n * total_width names (exps_of v.items)) false (z.Rep n xs)) row ∙ sym (ap (own names) (exp-Rep x n v h))))

pub own-Call : (names : Names) (x : Expr) (k : ℕ) (v : Vec Expr Global) (parts : Vec SizedExpr Global) (f : Form) → x.node ≡ d.Call k v
    → map sized_of parts.items ≡ at_inputs (map (own_of names) v.items) (input_widths names k) → f ≡ result_form names k
    → At f.width f.signed (node_of (s.Call k parts)) ≡ own_of names x
own-Call names x k v parts f h g e =
    let row = several-hidden parts ∙ (ap listed g ∙ sym (arguments-listed names v.items (input_widths names k))) in
    ap (λ (f : Form). At f.width f.signed (node_of (s.Call k parts))) e
    ∙ (ap (λ xs. At (result_form names k).width (result_form names k).signed (z.Call k xs)) row ∙ sym (ap (own names) (exp-Call x k v h)))

-- ---- functions

-- ---- arguments one by one

pub at-more : {A : Type 0} (g : A → Sized) (xs : List A) (ws : List ℕ) (i : ℕ) (x : A) → i < length xs → length xs ≡ length ws
    → at_inputs (map g (take (suc i) xs)) ws ≡ at_inputs (map g (take i xs)) ws ++ at_input (g (get_or xs i x)) (get_or ws i 0) ∷ []
at-more g [] ws i x l e = absurd (omega arith)
at-more g (y ∷ ys) [] i x l e = absurd (omega arith)
at-more g (y ∷ ys) (w ∷ ws) zero x l e = refl
at-more g (y ∷ ys) (w ∷ ws) (suc i) x l e = ap (λ zs. at_input (g y) w ∷ zs) (at-more g ys ws i x (omega arith) (omega arith))

-- ---- what the calls need

pub item-nodes : (es : List Expr) (i : ℕ) (x : Expr) → i < length es → x ≡ get_or es i x → nodes (exp_of x) ≤ all_nodes (exps_of es)
item-nodes es i x l e = rw e (at es i l)
  where
    at : (es : List Expr) (i : ℕ) → i < length es → nodes (exp_of (get_or es i x)) ≤ all_nodes (exps_of es)
    at [] i l = absurd (omega arith)
    at (y ∷ ys) zero l = omega arith
    at (y ∷ ys) (suc i) l = let h = at ys i (omega arith) in omega arith

pub item-sound : (names : Names) (es : List Expr) (i : ℕ) (x : Expr) → AreAllSound names es → i < length es → x ≡ get_or es i x → IsSoundExp names (exp_of x)
item-sound names es i x h l e = rw e (sound-item names es i x h l)

map-snoc : (xs : List SizedExpr) (x : SizedExpr) → map sized_of (xs ++ x ∷ []) ≡ map sized_of xs ++ sized_of x ∷ []
map-snoc [] x = refl
map-snoc (y ∷ ys) x = ap (λ zs. sized_of y ∷ zs) (map-snoc ys x)

-- one argument more
pub arguments-step : (g : Expr → Sized) (es : List Expr) (ws : List ℕ) (i : ℕ) (e : Expr) (old new : List SizedExpr) (x : SizedExpr)
    → map sized_of old ≡ at_inputs (map g (take i es)) ws → new ≡ old ++ x ∷ [] → i < length es → length es ≡ length ws → e ≡ get_or es i e
    → sized_of x ≡ at_input (g e) (get_or ws i 0) → map sized_of new ≡ at_inputs (map g (take (i + 1) es)) ws
arguments-step g es ws i e old new x so is l m it here =
    let last : sized_of x ≡ at_input (g (get_or es i e)) (get_or ws i 0) = here ∙ ap (λ y. at_input (g y) (get_or ws i 0)) it in
    ap (map sized_of) is ∙ (map-snoc old x ∙ (ap (λ xs. xs ++ sized_of x ∷ []) so ∙ (ap (λ y. at_inputs (map g (take i es)) ws ++ y ∷ []) last
    ∙ (sym (at-more g es ws i e l m) ∙ ap (λ n. at_inputs (map g (take n es)) ws) (sym (add-one i))))))

-- the inputs of what no number names
pub input-there : (names : Names) (fs : List Func) (k i : ℕ) → names.funs ≡ map fun_of fs → i < length (input_widths names k) → k < length fs
input-there names fs k i e l = at (slice_get fs k) refl
  where
    at : (o : Option Func) → slice_get fs k ≡ o → k < length fs
    at None h =
        let z : slice_get names.funs k ≡ None = ap (λ xs. slice_get xs k) e ∙ (slice_get-map fun_of fs k ∙ ap (option_map fun_of) h) in
        let n : i < length (input_widths_of names None) = subst (λ o. i < length (input_widths_of names o)) z l in
        absurd (omega arith)
    at (Some f) h = slice_get_within fs k f h

-- a call has as many arguments as its function has inputs
pub takes-widths : (names : Names) (o : Option Fun) (n : ℕ) → Takes o n → n ≡ length (input_widths_of names o)
takes-widths names None n h = absurd h
takes-widths names (Some f) n h = h ∙ sym (length-map f.inputs (λ k. (signal_form (rows_in names f) k).width))

-- the width of an input is that of the signal that it names
pub input-at : (names : Names) (fs : List Func) (k i : ℕ) (d : Func) → names.funs ≡ map fun_of fs → k < length fs → i < length (input_widths names k)
    → get_or (input_widths names k) i 0 ≡ (signal_form (rows_in names (fun_of (get_or fs k d))) (get_or (get_or fs k d).inputs i 0)).width
input-at names fs k i d e l m =
    let f = get_or fs k d in
    let h : ℕ → ℕ = λ j. (signal_form (rows_in names (fun_of f)) j).width in
    let g : slice_get names.funs k ≡ Some (fun_of f) = ap (λ xs. slice_get xs k) e ∙ (slice_get-map fun_of fs k ∙ ap (option_map fun_of) (slice_get-get_or fs k d l)) in
    let w : input_widths names k ≡ map h f.inputs = ap (input_widths_of names) g in
    let n : i < length f.inputs = omega (arith, ap length w, length-map f.inputs h) in
    ap (λ ws. get_or ws i 0) w ∙ get_or-map h f.inputs i 0 0 n
