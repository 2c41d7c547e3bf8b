-- The plain data of the grammar's trees, by the fields of their nodes.
use Rattle.std.proofs.Common.{◌≡◌, refl, List, map, Option, Some, None, ap, ◌∙◌}
use Rattle.vl_tree.specs.vl_base.specs.declared.place.Place.{Place}
use Rattle.vl_tree.specs.declared.tree.Identifier.{Identifier}
use Rattle.vl_tree.specs.declared.tree.Expression as e
use Rattle.vl_tree.specs.declared.tree.Binary as b
use Rattle.vl_tree.specs.declared.tree.Choice as c
use Rattle.vl_tree.specs.declared.tree.Primary as p
use Rattle.vl_tree.specs.declared.tree.Name as n
use Rattle.vl_tree.specs.declared.tree.Select as s
use Rattle.vl_tree.specs.declared.tree.Bound as d
use Rattle.vl_tree.specs.declared.tree.SystemCall as y
use Rattle.vl_tree.specs.declared.tree.SystemArgument as a
use Rattle.vl_tree.specs.declared.tree.Primary.TheBlock.{hidden-the_row-Expression-0, hidden-the_row-Expression-1, hidden-the_row-Binary-4, hidden-the_row-Choice-5, hidden-the_row-Primary-2, shown-the_row-Primary-2, hidden-the_row-Link-3, hidden-the_row-Select-6, hidden-the_row-SystemArgument-7}
use denote.Hole.Carrier.{hidden, shown}
use Rattle.vl_flat.specs.Binding as f
use Rattle.vl_flat.specs.Surface as x
use Rattle.elab_plain.specs.Listed.{of_list, unary, linked, chosen, selects_before, bounds, args_before, given, held}

-- ---- boxes

first_binary-hidden : (v : b.Binary) → f.first_binary (hidden-the_row-Binary-4 v) ≡ f.binary v
unfolding hidden-the_row-Binary-4 hidden
first_binary-hidden v = refl

first_choice-hidden : (v : c.Choice) (q : Place) (t : x.Ex) → f.first_choice (hidden-the_row-Choice-5 v) q t ≡ f.branches v q t
unfolding hidden-the_row-Choice-5 hidden
first_choice-hidden v q t = refl

first_primary-hidden : (v : p.Primary) → f.first_primary (hidden-the_row-Primary-2 v) ≡ f.primary v
unfolding hidden-the_row-Primary-2 hidden
first_primary-hidden v = refl

first-hidden : (v : e.Expression) → f.first (hidden-the_row-Expression-0 v) ≡ f.ex v
unfolding hidden-the_row-Expression-0 hidden
first-hidden v = refl

-- ---- lists

exs-items : {m : _} (k : p.Row_of-Expression m) → f.exs k ≡ of_list (map f.ex (p.items-the_row-Expression m k))
exs-items p.end_of-Expression = refl
exs-items (p.more_of-Expression v rest) = ap (x.MoreExs (f.ex v)) (exs-items rest)

exs-hidden : (v : List e.Expression) → f.exs (hidden-the_row-Expression-1 v) ≡ of_list (map f.ex v)
exs-hidden v = exs-items (hidden-the_row-Expression-1 v) ∙ ap (λ z. of_list (map f.ex z)) (p.items_hidden-the_row-Expression-1 v)

selects-items : {m : _} (k : n.Row_of-Select m) → f.selects k ≡ selects_before (n.items-the_row-Select m k) x.NoSelects
selects-items n.end_of-Select = refl
selects-items (n.more_of-Select v rest) = ap (f.select v) (selects-items rest)

selects-hidden : (v : List s.Select) → f.selects (hidden-the_row-Select-6 v) ≡ selects_before v x.NoSelects
selects-hidden v = selects-items (hidden-the_row-Select-6 v) ∙ ap (λ z. selects_before z x.NoSelects) (n.items_hidden-the_row-Select-6 v)

args-items : {m : _} (k : y.Row_of-SystemArgument m) → f.args k ≡ args_before (y.items-the_row-SystemArgument m k) x.NoArgs
args-items y.end_of-SystemArgument = refl
args-items (y.more_of-SystemArgument v rest) = ap (f.argument v) (args-items rest)

args-hidden : (v : List a.SystemArgument) → f.args (hidden-the_row-SystemArgument-7 v) ≡ args_before v x.NoArgs
args-hidden v = args-items (hidden-the_row-SystemArgument-7 v) ∙ ap (λ z. args_before z x.NoArgs) (y.items_hidden-the_row-SystemArgument-7 v)

first_primary-shown : (h : Unit {0}) (row : b.Row_of-Primary 1) → f.first_primary row ≡ f.primary (shown-the_row-Primary-2 h row)
unfolding shown-the_row-Primary-2 shown
first_primary-shown h (b.more_of-Primary v b.end_of-Primary) = refl

bound-items : {m : _} (k : b.Row_of-Link m) (t : x.Ex) → f.bound k t ≡ linked (b.items-the_row-Link m k) t
bound-items b.end_of-Link t = refl
bound-items (b.more_of-Link o q ms h row rest) t =
    bound-items rest (x.bound_with t o (f.marked ms (f.first_primary row)))
    ∙ ap (λ z. linked (b.items-the_row-Link _ rest) (x.bound_with t o (f.marked ms z))) (first_primary-shown h row)

-- ---- nodes

choice-back : (o : Option c.Choice) (q : Place) (t : x.Ex) → f.choice (e.back-Expression-choice o) q t ≡ chosen o q t
choice-back None q t = refl
choice-back (Some two) q t = first_choice-hidden two q t

pub ex-opens : (v : e.Expression) → f.ex v ≡ chosen (e.out-Expression v).choice (e.out-Expression v).place (f.binary (e.out-Expression v).binary)
ex-opens v =
    let o = e.out-Expression v in
    ap f.ex (e.is-Expression' v) ∙ (choice-back o.choice o.place (f.first_binary (hidden-the_row-Binary-4 o.binary)) ∙ ap (chosen o.choice o.place) (first_binary-hidden o.binary))

pub branches-opens : (v : c.Choice) (q : Place) (t : x.Ex) → f.branches v q t ≡ x.Choice q t (f.ex (c.out-Choice v).chosen) (f.ex (c.out-Choice v).otherwise)
branches-opens v q t = ap (λ z. f.branches z q t) (c.is-Choice' v)

pub named-opens : (v : n.Name) → f.named v ≡ x.Named (n.out-Name v).place (n.out-Name v).identifier.name (selects_before (n.out-Name v).selects x.NoSelects)
named-opens v =
    let o = n.out-Name v in
    ap f.named (n.is-Name' v) ∙ ap (x.Named o.place o.identifier.name) (selects-hidden o.selects)

bounds-back : (o : Option d.Bound) (q : Place) (i : x.Ex) (others : x.Selects) → f.bounds (s.back-Select-second o) q i others ≡ bounds o q i others
bounds-back None q i others = refl
bounds-back (Some two) q i others = refl

pub select-opens : (v : s.Select) (others : x.Selects) → f.select v others ≡ bounds (s.out-Select v).second (s.out-Select v).place (f.ex (s.out-Select v).first) others
select-opens v others =
    let o = s.out-Select v in
    ap (λ z. f.select z others) (s.is-Select' v) ∙ bounds-back o.second o.place (f.ex o.first) others

pub range-opens : (v : d.Bound) (q : Place) (i : x.Ex) (others : x.Selects) → f.range v q i others ≡ x.Range q (d.out-Bound v).mark i (f.ex (d.out-Bound v).bound) others
range-opens v q i others = ap (λ z. f.range z q i others) (d.is-Bound' v)

arguments-back : (o : Option (List a.SystemArgument)) → f.arguments (y.back-SystemCall-arguments o) ≡ given o
arguments-back None = refl
arguments-back (Some as') = args-hidden as'

pub system-opens : (v : y.SystemCall) → f.system v ≡ x.System (y.out-SystemCall v).place (y.out-SystemCall v).name (given (y.out-SystemCall v).arguments)
system-opens v =
    let o = y.out-SystemCall v in
    ap f.system (y.is-SystemCall' v) ∙ ap (x.System o.place o.name) (arguments-back o.arguments)

held-back : (o : Option e.Expression) (others : x.Args) → f.held (a.back-SystemArgument-argument o) others ≡ held o others
held-back None others = refl
held-back (Some v) others = refl

pub argument-opens : (v : a.SystemArgument) (others : x.Args) → f.argument v others ≡ held (a.out-SystemArgument v).argument others
argument-opens v others = ap (λ z. f.argument z others) (a.is-SystemArgument' v) ∙ held-back (a.out-SystemArgument v).argument others

pub binary-opens : (v : b.Binary) → f.binary v ≡ linked (b.out-Binary v).links (unary (b.out-Binary v).first)
binary-opens v =
    let o = b.out-Binary v in
    let first = ap (f.marked o.first.operators) (first_primary-hidden o.first.primary) in
    ap f.binary (b.is-Binary' v)
    ∙ (bound-items (hidden-the_row-Link-3 o.links) (f.marked o.first.operators (f.first_primary (hidden-the_row-Primary-2 o.first.primary)))
    ∙ (ap (λ z. linked z (f.marked o.first.operators (f.first_primary (hidden-the_row-Primary-2 o.first.primary)))) (b.items_hidden-the_row-Link-3 o.links)
    ∙ ap (linked o.links) first))

-- ---- primaries

pub parenthesized-ex : (q : Place) (v : e.Expression) → f.primary (p.Parenthesized q v) ≡ x.Paren q (f.ex v)
parenthesized-ex q v = ap (x.Paren q) (first-hidden v)

pub concatenation-ex : (q : Place) (v : List e.Expression) → f.primary (p.Concatenation q v) ≡ x.Joined q (of_list (map f.ex v))
concatenation-ex q v = ap (x.Joined q) (exs-hidden v)

pub call-ex : (i : Identifier) (v : List e.Expression) → f.primary (p.Call i v) ≡ x.Called i.place i.name (of_list (map f.ex v))
call-ex i v = ap (x.Called i.place i.name) (exs-hidden v)

pub replication-ex : (q : Place) (w : e.Expression) (v : List e.Expression) → f.primary (p.Replication q w v) ≡ x.Repeated q (f.ex w) (of_list (map f.ex v))
replication-ex q w v = ap (λ z. x.Repeated q z (f.exs (hidden-the_row-Expression-1 v))) (first-hidden w) ∙ ap (x.Repeated q (f.ex w)) (exs-hidden v)
