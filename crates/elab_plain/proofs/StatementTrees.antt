-- What the walk over statements cites.
use Rattle.std.proofs.Common.{◌≡◌, ◌<◌, ◌+◌, refl, sym, ap, ◌∙◌, ℕ, List, [], ◌∷◌, ◌++◌, map, length, get_or, take, Option, Some, None}
use Rattle.std.specs.declared.alloc.Global.{Global}
use Rattle.std.specs.declared.vec.Vec.{Vec}
use Rattle.std.proofs.lemmas.Grind.{common_steps}
use Rattle.std.proofs.lemmas.List.{take_more}
use Rattle.vl_tree.specs.vl_base.specs.declared.place.Place.{Place}
use Rattle.vl_tree.specs.declared.tree.Expression.{Expression}
use Rattle.vl_tree.specs.declared.tree.SystemCall.{SystemCall, out-SystemCall}
use Rattle.vl_tree.specs.declared.source_tree.Statement as t
use Rattle.vl_tree.specs.declared.source_tree.CaseItem as i
use Rattle.vl_tree.specs.declared.source_tree.CaseItem.TheBlock.{hidden-the_row-Statement-0, hidden-the_row-Statement-1, hidden-the_row-CaseItem-2}
use Rattle.vl_tree.specs.declared.source_tree.Assignment.{Assignment}
use Rattle.vl_tree.specs.declared.source_tree.CaseKeyword.{CaseKeyword}
use denote.Hole.Carrier.{hidden}
use Rattle.elab_plain.specs.declared.surface.Statement as s
use Rattle.elab_plain.specs.declared.surface.CaseItem as c
use Rattle.elab_plain.specs.declared.surface.CaseItem.TheBlock as cb
use Rattle.vl_flat.specs.Surface as x
use Rattle.vl_flat.specs.Binding as f
use Rattle.elab_plain.specs.Listed.{of_list, given}
use Rattle.elab_plain.specs.SeenStatements.{statements_of, seen_statement, row_statements, row_items, item, items_before, trees_before}
use Rattle.elab_plain.proofs.Opens.{system-opens}

-- ---- trees

first-hidden : (v : t.Statement) → f.first_statement (hidden-the_row-Statement-0 v) ≡ f.statement v
unfolding hidden-the_row-Statement-0 hidden
first-hidden v = refl

statements-items : {m : _} (k : t.Row_of-Statement m) → f.statements k ≡ statements_of (map f.statement (t.items-the_row-Statement m k))
statements-items t.end_of-Statement = refl
statements-items (t.more_of-Statement a rest) = ap (x.MoreStatements (f.statement a)) (statements-items rest)

pub block-statement : (q : Place) (v : List t.Statement) → f.statement (t.Block q v) ≡ x.Block q (statements_of (map f.statement v))
block-statement q v = ap (x.Block q) (statements-items (hidden-the_row-Statement-1 v) ∙ ap (λ z. statements_of (map f.statement z)) (t.items_hidden-the_row-Statement-1 v))

abbrev pub otherwise : Option t.Statement → Place → x.Statement
otherwise None q = x.Null q
otherwise (Some a) q = f.statement a

other-back : (o : Option t.Statement) (q : Place) → f.other (t.back-Statement-If-3 o) q ≡ otherwise o q
other-back None q = refl
other-back (Some a) q = first-hidden a

pub if-statement : (q : Place) (e : Expression) (a : t.Statement) (o : Option t.Statement) → f.statement (t.If q e a o) ≡ x.If q (f.ex e) (f.statement a) (otherwise o q)
if-statement q e a o =
    ap (λ z. x.If q (f.ex e) z (f.other (t.back-Statement-If-3 o) q)) (first-hidden a) ∙ ap (x.If q (f.ex e) (f.statement a)) (other-back o q)

items-items : {m : _} (k : t.Row_of-CaseItem m) → f.case_items k ≡ trees_before (t.items-the_row-CaseItem m k) x.NoItems
items-items t.end_of-CaseItem = refl
items-items (t.more_of-CaseItem a rest) = ap (f.case_item a) (items-items rest)

pub case-statement : (q : Place) (w : CaseKeyword) (e : Expression) (v : List i.CaseItem) → f.statement (t.Case q w e v) ≡ x.Case q (f.is_wild w) (f.ex e) (trees_before v x.NoItems)
case-statement q w e v = ap (x.Case q (f.is_wild w) (f.ex e)) (items-items (hidden-the_row-CaseItem-2 v) ∙ ap (λ z. trees_before z x.NoItems) (t.items_hidden-the_row-CaseItem-2 v))

pub for-statement : (q : Place) (a : Assignment) (e : Expression) (b : Assignment) (v : t.Statement)
    → f.statement (t.For q a e b v) ≡ x.For q (f.left a.target) (f.ex a.value) (f.ex e) (f.left b.target) (f.ex b.value) (f.statement v)
for-statement q a e b v = ap (x.For q (f.left a.target) (f.ex a.value) (f.ex e) (f.left b.target) (f.ex b.value)) (first-hidden v)

pub repeat-statement : (q : Place) (e : Expression) (v : t.Statement) → f.statement (t.Repeat q e v) ≡ x.Repeat q (f.ex e) (f.statement v)
repeat-statement q e v = ap (x.Repeat q (f.ex e)) (first-hidden v)

list_exs-of : (es : List Expression) → f.list_exs es ≡ of_list (map f.ex es)
list_exs-of [] = refl
list_exs-of (a ∷ as') = ap (x.MoreExs (f.ex a)) (list_exs-of as')

pub labels-item : (q : Place) (es : List Expression) (v : t.Statement) (o : x.CaseItems) → f.case_item (i.Labels q es v) o ≡ x.Labelled (of_list (map f.ex es)) (f.statement v) o
labels-item q es v o = ap (λ z. x.Labelled z (f.first_statement (hidden-the_row-Statement-0 v)) o) (list_exs-of es) ∙ ap (λ z. x.Labelled (of_list (map f.ex es)) z o) (first-hidden v)

pub default-item : (q : Place) (v : t.Statement) (o : x.CaseItems) → f.case_item (i.Default q v) o ≡ x.Default (f.statement v) o
default-item q v o = ap (λ z. x.Default z o) (first-hidden v)

-- a task of this name and these arguments
pub task-is : (q : Place) (v : SystemCall) (name : List ℕ) (given' : x.Args) → name ≡ (out-SystemCall v).name → given' ≡ given (out-SystemCall v).arguments → x.Task q name given' ≡ f.task q (f.system v)
task-is q v name given' same args = (ap (λ z. x.Task q z given') same ∙ ap (x.Task q (out-SystemCall v).name) args) ∙ sym (ap (f.task q) (system-opens v))

-- ---- the program's

row_statements-items : {m : _} (k : s.Row_of-Statement m) → row_statements k ≡ statements_of (map seen_statement (s.items-the_row-Statement m k))
row_statements-items s.end_of-Statement = refl
row_statements-items (s.more_of-Statement a rest) = ap (x.MoreStatements (seen_statement a)) (row_statements-items rest)

pub row_statements-hidden : (v : Vec s.Statement Global) → row_statements (cb.hidden-the_row-Statement-0 v) ≡ statements_of (map seen_statement v.items)
row_statements-hidden v = row_statements-items (cb.hidden-the_row-Statement-0 v) ∙ ap (λ z. statements_of (map seen_statement z)) (s.items_hidden-the_row-Statement-0 v)

row_items-items : {m : _} (k : s.Row_of-CaseItem m) → row_items k ≡ items_before (s.items-the_row-CaseItem m k) x.NoItems
row_items-items s.end_of-CaseItem = refl
row_items-items (s.more_of-CaseItem a rest) = ap (item a) (row_items-items rest)

pub row_items-hidden : (v : Vec c.CaseItem Global) → row_items (cb.hidden-the_row-CaseItem-1 v) ≡ items_before v.items x.NoItems
row_items-hidden v = row_items-items (cb.hidden-the_row-CaseItem-1 v) ∙ ap (λ z. items_before z x.NoItems) (s.items_hidden-the_row-CaseItem-1 v)

-- ---- items, step by step

pub items-append : (xs : List c.CaseItem) (y : c.CaseItem) (o : x.CaseItems) → items_before (xs ++ y ∷ []) o ≡ items_before xs (item y o)
items-append [] y o = refl
items-append (z ∷ zs) y o = ap (item z) (items-append zs y o)

append-trees : (xs : List i.CaseItem) (y : i.CaseItem) (o : x.CaseItems) → trees_before (xs ++ y ∷ []) o ≡ trees_before xs (f.case_item y o)
append-trees [] y o = refl
append-trees (z ∷ zs) y o = ap (f.case_item z) (append-trees zs y o)

pub trees-more : (xs : List i.CaseItem) (n : ℕ) (y : i.CaseItem) (o : x.CaseItems) → n < length xs → y ≡ get_or xs n y → trees_before (take (n + 1) xs) o ≡ trees_before (take n xs) (f.case_item y o)
trees-more xs n y o h is = ap (λ z. trees_before z o) (take_more xs n y h) ∙ (append-trees (take n xs) (get_or xs n y) o ∙ ap (λ z. trees_before (take n xs) (f.case_item z o)) (sym is))

pub ruleset statements = (common_steps, block-statement, if-statement, case-statement, for-statement, repeat-statement, labels-item, default-item)
