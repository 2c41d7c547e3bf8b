-- What the walks over trees cite.
use Rattle.std.proofs.Common.{◌≡◌, ◌<◌, ◌+◌, refl, sym, ℕ, List, [], ◌∷◌, ◌++◌, map, length, get_or, take, drop, ap, ◌∙◌}
use Rattle.std.proofs.lemmas.List.{take_more, at_drop_more}
use Rattle.vl_tree.specs.declared.tree.Link.{Link, out-Link}
use Rattle.vl_tree.specs.declared.tree.Select.{Select as SelectTree}
use Rattle.vl_tree.specs.declared.tree.SystemArgument.{SystemArgument}
use Rattle.vl_tree.specs.declared.tree.SystemCall.{SystemCall, out-SystemCall}
use Rattle.vl_flat.specs.Binding as f
use Rattle.elab_plain.specs.Listed as g
use Rattle.std.specs.declared.alloc.Global.{Global}
use Rattle.std.specs.declared.vec.Vec.{Vec}
use Rattle.vl_tree.specs.vl_base.specs.declared.place.Place.{Place}
use Rattle.elab_plain.specs.declared.surface.Ex as e
use Rattle.elab_plain.specs.declared.surface.Select as s
use Rattle.elab_plain.specs.declared.surface.Argument as a
use Rattle.elab_plain.specs.declared.surface.Argument.TheBlock as blk
use Rattle.vl_flat.specs.Surface as x
use Rattle.elab_plain.specs.Seen.{seen, select, row_exs, row_selects, row_args, selects_before, args_before, argument}
use Rattle.elab_plain.specs.Listed.{of_list}
use Rattle.elab_plain.proofs.Opens.{ex-opens, branches-opens, named-opens, select-opens, range-opens, system-opens, argument-opens, binary-opens, parenthesized-ex, concatenation-ex, call-ex, replication-ex}
use Rattle.std.proofs.lemmas.Grind.{common_steps}

row_exs-items : {m : _} (k : e.Row_of-Ex m) → row_exs k ≡ of_list (map seen (e.items-the_row-Ex m k))
row_exs-items e.end_of-Ex = refl
row_exs-items (e.more_of-Ex v rest) = ap (x.MoreExs (seen v)) (row_exs-items rest)

row_selects-items : {m : _} (k : e.Row_of-Select m) → row_selects k ≡ selects_before (e.items-the_row-Select m k) x.NoSelects
row_selects-items e.end_of-Select = refl
row_selects-items (e.more_of-Select v rest) = ap (select v) (row_selects-items rest)

row_args-items : {m : _} (k : e.Row_of-Argument m) → row_args k ≡ args_before (e.items-the_row-Argument m k) x.NoArgs
row_args-items e.end_of-Argument = refl
row_args-items (e.more_of-Argument v rest) = ap (argument v) (row_args-items rest)

pub row_exs-hidden : (v : Vec e.Ex Global) → row_exs (blk.hidden-the_row-Ex-1 v) ≡ of_list (map seen v.items)
row_exs-hidden v = row_exs-items (blk.hidden-the_row-Ex-1 v) ∙ ap (λ z. of_list (map seen z)) (e.items_hidden-the_row-Ex-1 v)

pub row_selects-hidden : (v : Vec s.Select Global) → row_selects (blk.hidden-the_row-Select-0 v) ≡ selects_before v.items x.NoSelects
row_selects-hidden v = row_selects-items (blk.hidden-the_row-Select-0 v) ∙ ap (λ z. selects_before z x.NoSelects) (e.items_hidden-the_row-Select-0 v)

pub row_args-hidden : (v : Vec a.Argument Global) → row_args (blk.hidden-the_row-Argument-2 v) ≡ args_before v.items x.NoArgs
row_args-hidden v = row_args-items (blk.hidden-the_row-Argument-2 v) ∙ ap (λ z. args_before z x.NoArgs) (e.items_hidden-the_row-Argument-2 v)

pub joined-seen : (q : Place) (v : Vec e.Ex Global) → seen (e.Joined q v) ≡ x.Joined q (of_list (map seen v.items))
joined-seen q v = ap (x.Joined q) (row_exs-hidden v)

pub called-seen : (q : Place) (t : List ℕ) (v : Vec e.Ex Global) → seen (e.Called q t v) ≡ x.Called q t (of_list (map seen v.items))
called-seen q t v = ap (x.Called q t) (row_exs-hidden v)

pub named-seen : (q : Place) (t : List ℕ) (v : Vec s.Select Global) → seen (e.Named q t v) ≡ x.Named q t (selects_before v.items x.NoSelects)
named-seen q t v = ap (x.Named q t) (row_selects-items (blk.hidden-the_row-Select-0 v) ∙ ap (λ z. selects_before z x.NoSelects) (e.items_hidden-the_row-Select-0 v))

pub system-seen : (q : Place) (t : List ℕ) (v : Vec a.Argument Global) → seen (e.System q t v) ≡ x.System q t (args_before v.items x.NoArgs)
system-seen q t v = ap (x.System q t) (row_args-items (blk.hidden-the_row-Argument-2 v) ∙ ap (λ z. args_before z x.NoArgs) (e.items_hidden-the_row-Argument-2 v))

-- ---- lists, step by step

pub selects-append : (xs : List s.Select) (y : s.Select) (o : x.Selects) → selects_before (xs ++ y ∷ []) o ≡ selects_before xs (select y o)
selects-append [] y o = refl
selects-append (z ∷ zs) y o = ap (select z) (selects-append zs y o)

append-selects : (xs : List SelectTree) (y : SelectTree) (o : x.Selects) → g.selects_before (xs ++ y ∷ []) o ≡ g.selects_before xs (f.select y o)
append-selects [] y o = refl
append-selects (z ∷ zs) y o = ap (f.select z) (append-selects zs y o)

pub selects-more : (xs : List SelectTree) (i : ℕ) (y : SelectTree) (o : x.Selects) → i < length xs → y ≡ get_or xs i y → g.selects_before (take (i + 1) xs) o ≡ g.selects_before (take i xs) (f.select y o)
selects-more xs i y o h is = ap (λ z. g.selects_before z o) (take_more xs i y h) ∙ (append-selects (take i xs) (get_or xs i y) o ∙ ap (λ z. g.selects_before (take i xs) (f.select z o)) (sym is))

pub args-append : (xs : List a.Argument) (y : a.Argument) (o : x.Args) → args_before (xs ++ y ∷ []) o ≡ args_before xs (argument y o)
args-append [] y o = refl
args-append (z ∷ zs) y o = ap (argument z) (args-append zs y o)

append-args : (xs : List SystemArgument) (y : SystemArgument) (o : x.Args) → g.args_before (xs ++ y ∷ []) o ≡ g.args_before xs (f.argument y o)
append-args [] y o = refl
append-args (z ∷ zs) y o = ap (f.argument z) (append-args zs y o)

pub args-more : (xs : List SystemArgument) (i : ℕ) (y : SystemArgument) (o : x.Args) → i < length xs → y ≡ get_or xs i y → g.args_before (take (i + 1) xs) o ≡ g.args_before (take i xs) (f.argument y o)
args-more xs i y o h is = ap (λ z. g.args_before z o) (take_more xs i y h) ∙ (append-args (take i xs) (get_or xs i y) o ∙ ap (λ z. g.args_before (take i xs) (f.argument z o)) (sym is))

pub ruleset opens = (common_steps, ex-opens, branches-opens, named-opens, select-opens, range-opens, system-opens, argument-opens, binary-opens, parenthesized-ex, concatenation-ex, call-ex, replication-ex)

-- a system call of this name and these arguments
pub system-is : (v : SystemCall) (name : List ℕ) (w : Vec a.Argument Global) → name ≡ (out-SystemCall v).name → args_before w.items x.NoArgs ≡ g.given (out-SystemCall v).arguments
    → x.System (out-SystemCall v).place name (row_args (blk.hidden-the_row-Argument-2 w)) ≡ f.system v
system-is v name w same args =
    (ap (λ z. x.System (out-SystemCall v).place z (row_args (blk.hidden-the_row-Argument-2 w))) same
    ∙ ap (x.System (out-SystemCall v).place (out-SystemCall v).name) (row_args-hidden w ∙ args))
    ∙ sym (system-opens v)
