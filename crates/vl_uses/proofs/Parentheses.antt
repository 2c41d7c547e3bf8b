-- What an expression is, apart from parentheses, by the parts that the program looks at.
use Rattle.std.proofs.Common.{◌≡◌, List, [], ◌∷◌, Option, Some, None, refl, sym, ap, ◌∙◌, subst, if◌then◌else◌}
use Rattle.vl_tree.specs.declared.tree.Expression as e
use Rattle.vl_tree.specs.declared.tree.Expression.{Expression, roll-Expression, out-Expression, roll-out-Expression}
use Rattle.vl_tree.specs.declared.tree.Binary as b
use Rattle.vl_tree.specs.declared.tree.Choice.{Choice}
use Rattle.vl_tree.specs.declared.tree.Link.{Link}
use Rattle.vl_tree.specs.declared.tree.UnaryMark.{UnaryMark}
use Rattle.vl_tree.specs.declared.tree.Primary as p
use Rattle.vl_tree.specs.declared.tree.Primary.{Primary}
use Rattle.vl_tree.specs.declared.tree.Primary.TheVariants as v
use Rattle.vl_tree.specs.declared.tree.Primary.TheBlock as t
use Rattle.vl_tree.specs.declared.tree.Primary.TheViews as tv
use Rattle.std.specs.Borrow.{Bor}
use Rattle.vl_uses.specs.Walks.{pointed}
use Rattle.vl_tree.specs.declared.tree.Unary.{Unary}
use Rattle.vl_tree.specs.declared.tree.Binary.{Binary, roll-Binary, out-Binary, roll-out-Binary}
use Rattle.vl_tree.specs.vl_base.specs.declared.place.Place.{Place}
use Rattle.vl_uses.specs.Alone as s

-- an expression, by what stands in the parentheses that it is
abbrev pub stripped_by : Option Expression → Expression → Expression
stripped_by None x = x
stripped_by (Some inner) x = s.stripped inner

inner-row : {m : _} (x : Expression) (row : p.Row_of-Expression m) → s.stripped_inner x row ≡ stripped_by (s.row_inner row) x
unfolding s.stripped_inner
inner-row x p.end_of-Expression = refl
inner-row x (p.more_of-Expression inner rest) = refl

primary-stripped : (x : Expression) (a : Primary) → s.stripped_primary x (t.hidden-the_row-Primary-2 a) ≡ stripped_by (s.inner_of (Some a)) x
unfolding s.stripped_primary t.hidden-the_row-Primary-2 denote.Hole.Carrier.hidden
primary-stripped x (p.Number at n) = refl
primary-stripped x (p.Str at text) = refl
primary-stripped x (p.Name n) = refl
primary-stripped x (p.Parenthesized' at s inner) = inner-row x inner
primary-stripped x (p.Concatenation' at s parts) = refl
primary-stripped x (p.Replication' at s count t parts) = refl
primary-stripped x (p.Call' name s arguments) = refl
primary-stripped x (p.System a) = refl

-- an operand, by the marks before it and the operators behind it
operand-stripped : (x : Expression) (from : Place) (marks : List UnaryMark) (a : Primary) (links : List Link) → (if s.stands_alone marks (t.hidden-the_row-Link-3 links) then s.stripped_primary x (t.hidden-the_row-Primary-2 a) else x)
    ≡ stripped_by (s.inner_of (s.unmarked (s.operand_in None links (record { place = from; operators = marks; primary = a })))) x
unfolding t.hidden-the_row-Link-3 denote.Hole.Carrier.hidden
operand-stripped x from [] a [] = primary-stripped x a
operand-stripped x from (m ∷ marks) a [] = refl
operand-stripped x from [] a (l ∷ links) = refl
operand-stripped x from (m ∷ marks) a (l ∷ links) = refl

binary-made : (x : Expression) (at : Place) (first : Unary) (links : List Link) → s.stripped_row x (t.hidden-the_row-Binary-4 (roll-Binary (record { place = at; first = first; links = links })))
    ≡ stripped_by (s.inner_of (s.unmarked (s.operand_in None links first))) x
unfolding s.stripped_row t.hidden-the_row-Binary-4 denote.Hole.Carrier.hidden
binary-made x at first links =
    ap (λ y. s.stripped_row x (e.more_of-Binary y e.end_of-Binary)) (b.rolls-Binary' (record { place = at; first = first; links = links }))
    ∙ operand-stripped x first.place first.operators first.primary links

binary-stripped : (x : Expression) (a : Binary) → s.stripped_row x (t.hidden-the_row-Binary-4 a) ≡ stripped_by (s.inner_of (s.unmarked (s.operand_in None (out-Binary a).links (out-Binary a).first))) x
binary-stripped x a = ap (λ y. s.stripped_row x (t.hidden-the_row-Binary-4 y)) (sym (roll-out-Binary a)) ∙ binary-made x (out-Binary a).place (out-Binary a).first (out-Binary a).links

expression-made : (at : Place) (whole : Binary) (o : Option Choice) → s.stripped (roll-Expression (record { place = at; binary = whole; choice = o }))
    ≡ stripped_by (s.inner_of (s.unmarked (s.operand_in o (out-Binary whole).links (out-Binary whole).first))) (roll-Expression (record { place = at; binary = whole; choice = o }))
unfolding s.stripped
expression-made at whole None =
    let e = e.rolls-Expression' (record { place = at; binary = whole; choice = None }) in
    subst (λ z. s.stripped z ≡ stripped_by (s.inner_of (s.unmarked (s.operand_in None (out-Binary whole).links (out-Binary whole).first))) z) (sym e) (binary-stripped _ whole)
expression-made at whole (Some a) =
    let e = e.rolls-Expression' (record { place = at; binary = whole; choice = Some a }) in
    subst (λ z. s.stripped z ≡ z) (sym e) refl

-- an expression in parentheses is stripped as what stands in them, and another stays
pub stripped-opens : (x : Expression) → s.stripped x ≡ stripped_by (s.inner_of (s.sole x)) x
stripped-opens x = subst (λ z. s.stripped z ≡ stripped_by (s.inner_of (s.sole x)) z) (roll-out-Expression x) (expression-made (out-Expression x).place (out-Expression x).binary (out-Expression x).choice)

pub inner-Parenthesized : (at : Place) (a : Expression) → s.inner_of (Some (v.Parenthesized at a)) ≡ Some a
unfolding t.hidden-the_row-Expression-0 denote.Hole.Carrier.hidden
inner-Parenthesized at a = refl

parenthesized : (at : Place) (s : Unit {0}) (row : p.Row_of-Expression 1) → p.Parenthesized' at s row ≡ v.Parenthesized at (t.shown-the_row-Expression-0 s row)
parenthesized at s row = sym (p.roll-out-Primary (p.Parenthesized' at s row)) ∙ (ap p.roll-Primary (tv.outs-Parenthesized' at s row) ∙ tv.rolls-Parenthesized at (t.shown-the_row-Expression-0 s row))

inner-other : (a : Primary) → ((at : Place) (inner : Expression) → a ≡ v.Parenthesized at inner → ⊥) → s.inner_of (Some a) ≡ None
inner-other (p.Number at n) h = refl
inner-other (p.Str at text) h = refl
inner-other (p.Name n) h = refl
inner-other (p.Parenthesized' at s row) h = absurd (h at (t.shown-the_row-Expression-0 s row) (parenthesized at s row))
inner-other (p.Concatenation' at s parts) h = refl
inner-other (p.Replication' at s count t parts) h = refl
inner-other (p.Call' name s arguments) h = refl
inner-other (p.System a) h = refl

-- an expression that has an operator
pub stripped-none : (x : Expression) (o : Option (Bor Primary)) → pointed o ≡ s.sole x → o ≡ None → s.stripped x ≡ x
stripped-none x o e f = stripped-opens x ∙ ap (λ o. stripped_by (s.inner_of o) x) (sym e ∙ ap pointed f)

-- an expression that is none in parentheses
pub stripped-other : (x : Expression) (o : Option (Bor Primary)) (a : Bor Primary) → pointed o ≡ s.sole x → o ≡ Some a → ((at : Place) (inner : Expression) → a.now ≡ v.Parenthesized at inner → ⊥) → s.stripped x ≡ x
stripped-other x o a e f h = stripped-opens x ∙ (ap (λ o. stripped_by (s.inner_of o) x) (sym e ∙ ap pointed f) ∙ ap (λ o. stripped_by o x) (inner-other a.now h))

-- an expression in parentheses
pub stripped-inner : (x : Expression) (o : Option (Bor Primary)) (a : Bor Primary) (at : Place) (inner : Expression) → pointed o ≡ s.sole x → o ≡ Some a → a.now ≡ v.Parenthesized at inner → s.stripped x ≡ s.stripped inner
stripped-inner x o a at inner e f g = stripped-opens x ∙ (ap (λ o. stripped_by (s.inner_of o) x) (sym e ∙ (ap pointed f ∙ ap Some g)) ∙ ap (λ o. stripped_by o x) (inner-Parenthesized at inner))

pub parentheses-inside : (x : Expression) (at : Place) (inner : Expression) → s.sole x ≡ Some (v.Parenthesized at inner) → s.stripped x ≡ s.stripped inner
parentheses-inside x at inner e = stripped-opens x ∙ (ap (λ o. stripped_by (s.inner_of o) x) e ∙ ap (λ o. stripped_by o x) (inner-Parenthesized at inner))

other_inner : (o : Option Primary) → ((at : Place) (inner : Expression) → o ≡ Some (v.Parenthesized at inner) → ⊥) → s.inner_of o ≡ None
other_inner None h = refl
other_inner (Some a) h = inner-other a (λ at inner e. h at inner (ap Some e))

pub parentheses-others : (x : Expression) → ((at : Place) (inner : Expression) → s.sole x ≡ Some (v.Parenthesized at inner) → ⊥) → s.stripped x ≡ x
parentheses-others x h = stripped-opens x ∙ ap (λ o. stripped_by o x) (other_inner (s.sole x) h)

pub apart-Parenthesized : (at : Place) (a : Expression) → s.primary_apart (v.Parenthesized at a) ≡ s.apart a
unfolding t.hidden-the_row-Expression-0 denote.Hole.Carrier.hidden
apart-Parenthesized at a = refl
