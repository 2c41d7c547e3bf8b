-- The parts of expressions, by what the walks over them look at.
use Rattle.std.proofs.Common.{◌≡◌, ℕ, Bool, List, [], ◌∷◌, ◌++◌, length, ◌+◌, append-nil, add-one, Option, Some, None, refl, sym, ap, ◌∙◌, subst}
use Rattle.std.specs.List.{flat_map}
use Rattle.vl_tree.specs.vl_base.specs.declared.place.Place.{Place}
use Rattle.vl_tree.specs.vl_base.specs.declared.number.Number.{Number as Numeral}
use Rattle.vl_tree.specs.declared.tree.Identifier.{Identifier}
use Rattle.vl_tree.specs.declared.tree.Expression as e
use Rattle.vl_tree.specs.declared.tree.Expression.{Expression, roll-Expression, out-Expression, roll-out-Expression}
use Rattle.vl_tree.specs.declared.tree.Choice as c
use Rattle.vl_tree.specs.declared.tree.Choice.{Choice, out-Choice, roll-out-Choice}
use Rattle.vl_tree.specs.declared.tree.Binary as b
use Rattle.vl_tree.specs.declared.tree.Binary.{Binary, out-Binary, roll-Binary, roll-out-Binary}
use Rattle.vl_tree.specs.declared.tree.Link.{Link}
use Rattle.vl_tree.specs.declared.tree.Unary.{Unary}
use Rattle.vl_tree.specs.declared.tree.Primary as p
use Rattle.vl_tree.specs.declared.tree.Primary.TheVariants as v
use Rattle.vl_tree.specs.declared.tree.Primary.TheBlock as t
use Rattle.vl_tree.specs.declared.tree.Name as nm
use Rattle.vl_tree.specs.declared.tree.Name.{Name, out-Name, roll-Name, roll-out-Name}
use Rattle.vl_tree.specs.declared.tree.Select as se
use Rattle.vl_tree.specs.declared.tree.Select.{Select, out-Select, roll-Select, roll-out-Select}
use Rattle.vl_tree.specs.declared.tree.Bound as bd
use Rattle.vl_tree.specs.declared.tree.Bound.{Bound, out-Bound}
use Rattle.vl_tree.specs.declared.tree.SystemCall as y
use Rattle.vl_tree.specs.declared.tree.SystemCall.{SystemCall, out-SystemCall, roll-SystemCall, roll-out-SystemCall}
use Rattle.vl_tree.specs.declared.tree.SystemArgument as g
use Rattle.vl_tree.specs.declared.tree.SystemArgument.{SystemArgument, out-SystemArgument}
use Rattle.vl_uses.specs.declared.setting.Setting.{Setting}
use Rattle.vl_uses.specs.declared.setting.Usage.{Usage}
use Rattle.vl_uses.specs.declared.setting.Usage.TheVariants.{Operand}
use Rattle.vl_uses.specs.Settings.{constantly}
use Rattle.vl_uses.specs.Nodes as n
use Rattle.vl_uses.specs.Walks.{unary_nodes, link_nodes, choice_nodes, bounds_nodes, read_nodes, argument_nodes}
use Rattle.std.proofs.lemmas.Grind.{common_steps}

expression_row-items : (k : Setting) (m : _) (row : p.Row_of-Expression m) → n.expression_row k row ≡ flat_map (n.expression_nodes k) (p.items-the_row-Expression m row)
unfolding n.expression_row
expression_row-items k m p.end_of-Expression = refl
expression_row-items k m (p.more_of-Expression a rest) = ap (λ r. n.expression_nodes k a ++ r) (expression_row-items k _ rest)

row-hidden : (k : Setting) (parts : List Expression) → n.expression_row k (t.hidden-the_row-Expression-1 parts) ≡ flat_map (n.expression_nodes k) parts
row-hidden k parts = expression_row-items k _ (t.hidden-the_row-Expression-1 parts) ∙ ap (flat_map (n.expression_nodes k)) (p.items_hidden-the_row-Expression-1 parts)

pub nodes-Concatenation : (k : Setting) (at : Place) (parts : List Expression) → n.primary_nodes k (v.Concatenation at parts) ≡ n.node k (n.group at) ∷ flat_map (n.expression_nodes k) parts
unfolding n.primary_nodes
nodes-Concatenation k at parts = ap (λ r. n.node k (n.group at) ∷ r) (row-hidden k parts)

one-hidden : (k : Setting) (a : Expression) → n.expression_row k (t.hidden-the_row-Expression-0 a) ≡ n.expression_nodes k a
unfolding n.expression_row t.hidden-the_row-Expression-0 denote.Hole.Carrier.hidden
one-hidden k a = append-nil (n.expression_nodes k a)

link-hidden : (k : Setting) (links : List Link) → n.link_row k (t.hidden-the_row-Link-3 links) ≡ flat_map (link_nodes k) links
unfolding n.link_row t.hidden-the_row-Link-3 denote.Hole.Carrier.hidden
link-hidden k [] = refl
link-hidden k (x ∷ links) = ap (λ r. unary_nodes k x.operand ++ r) (link-hidden k links)

binary-made : (k : Setting) (at : Place) (first : Unary) (links : List Link) → n.binary_row k (t.hidden-the_row-Binary-4 (roll-Binary (record { place = at; first = first; links = links }))) ≡ unary_nodes k first ++ flat_map (link_nodes k) links
unfolding n.binary_row t.hidden-the_row-Binary-4 denote.Hole.Carrier.hidden
binary-made k at first links = ap (λ y. n.binary_row k (e.more_of-Binary y e.end_of-Binary)) (b.rolls-Binary' (record { place = at; first = first; links = links })) ∙ ap (λ r. unary_nodes k first ++ r) (link-hidden k links)

binary-hidden : (k : Setting) (a : Binary) → n.binary_row k (t.hidden-the_row-Binary-4 a) ≡ unary_nodes k (out-Binary a).first ++ flat_map (link_nodes k) (out-Binary a).links
binary-hidden k a = ap (λ y. n.binary_row k (t.hidden-the_row-Binary-4 y)) (sym (roll-out-Binary a)) ∙ binary-made k (out-Binary a).place (out-Binary a).first (out-Binary a).links

choice-hidden : (k : Setting) (a : Choice) → n.choice_row k (t.hidden-the_row-Choice-5 a) ≡ choice_nodes k a
unfolding n.choice_row t.hidden-the_row-Choice-5 denote.Hole.Carrier.hidden
choice-hidden k a =
    ap (λ y. n.choice_row k (e.more_of-Choice y e.end_of-Choice)) (sym (roll-out-Choice a) ∙ c.rolls-Choice' (out-Choice a))

expression-made : (k : Setting) (at : Place) (whole : Binary) (o : Option Choice) → n.expression_nodes k (roll-Expression (record { place = at; binary = whole; choice = o }))
    ≡ unary_nodes k (out-Binary whole).first ++ flat_map (link_nodes k) (out-Binary whole).links ++ n.given (choice_nodes k) o
unfolding n.expression_nodes
expression-made k at whole None =
    ap (n.expression_nodes k) (e.rolls-Expression' (record { place = at; binary = whole; choice = None })) ∙ ap (λ r. r ++ []) (binary-hidden k whole)
expression-made k at whole (Some a) =
    ap (n.expression_nodes k) (e.rolls-Expression' (record { place = at; binary = whole; choice = Some a })) ∙ rw (binary-hidden k whole, choice-hidden k a) refl

-- an expression
pub expression-parts : (k : Setting) (a : Expression) → n.expression_nodes k a
    ≡ unary_nodes k (out-Binary (out-Expression a).binary).first ++ flat_map (link_nodes k) (out-Binary (out-Expression a).binary).links ++ n.given (choice_nodes k) (out-Expression a).choice
expression-parts k a = ap (n.expression_nodes k) (sym (roll-out-Expression a)) ∙ expression-made k (out-Expression a).place (out-Expression a).binary (out-Expression a).choice

-- ---- names

select-hidden : (k : Setting) (selects : List Select) → n.select_row k (t.hidden-the_row-Select-6 selects) ≡ flat_map (n.select_nodes k) selects
unfolding n.select_row t.hidden-the_row-Select-6 denote.Hole.Carrier.hidden
select-hidden k [] = refl
select-hidden k (x ∷ selects) = ap (λ r. n.select_nodes k x ++ r) (select-hidden k selects)

name-made : (k : Setting) (at : Place) (id : Identifier) (selects : List Select) → n.name_nodes k (roll-Name (record { place = at; identifier = id; selects = selects })) ≡ flat_map (n.select_nodes k) selects
unfolding n.name_nodes
name-made k at id selects = ap (n.name_nodes k) (nm.rolls-Name' (record { place = at; identifier = id; selects = selects })) ∙ select-hidden k selects

-- what stands in the selects of a name
pub name-parts : (k : Setting) (a : Name) → n.name_nodes k a ≡ flat_map (n.select_nodes k) (out-Name a).selects
name-parts k a = ap (n.name_nodes k) (sym (roll-out-Name a)) ∙ name-made k (out-Name a).place (out-Name a).identifier (out-Name a).selects

select-made : (k : Setting) (at : Place) (first : Expression) (o : Option Bound) → n.select_nodes k (roll-Select (record { place = at; first = first; second = o })) ≡ bounds_nodes k first o
unfolding n.select_nodes
select-made k at first None = ap (n.select_nodes k) (se.rolls-Select' (record { place = at; first = first; second = None }))
select-made k at first (Some d) = ap (n.select_nodes k) (se.rolls-Select' (record { place = at; first = first; second = Some d }))
    ∙ ap (λ z. n.select_nodes k (se.Select' at first (se.Select-second-Some' z))) (sym (bd.roll-out-Bound d) ∙ bd.rolls-Bound' (out-Bound d))

-- a select
pub select-parts : (k : Setting) (a : Select) → n.select_nodes k a ≡ bounds_nodes k (out-Select a).first (out-Select a).second
select-parts k a = ap (n.select_nodes k) (sym (roll-out-Select a)) ∙ select-made k (out-Select a).place (out-Select a).first (out-Select a).second

-- ---- system calls

argument-made : (k : Setting) (load : Bool) (o : Option Expression) → n.argument_nodes k load (g.back-SystemArgument-argument o) ≡ n.given (read_nodes k load) o
unfolding n.argument_nodes
argument-made k load None = refl
argument-made k load (Some a) = refl

argument-hidden : (k : Setting) (load : Bool) (as' : List SystemArgument) → n.argument_row k load (t.hidden-the_row-SystemArgument-7 as') ≡ flat_map (argument_nodes k load) as'
unfolding n.argument_row t.hidden-the_row-SystemArgument-7 denote.Hole.Carrier.hidden
argument-hidden k load [] = refl
argument-hidden k load (x ∷ as') =
    ap (λ z. n.argument_row k load (y.more_of-SystemArgument z (t.hidden-the_row-SystemArgument-7 as'))) (sym (g.roll-out-SystemArgument x) ∙ g.rolls-SystemArgument' (out-SystemArgument x))
    ∙ rw (argument-made k load (out-SystemArgument x).argument, argument-hidden k load as') refl

arguments-made : (k : Setting) (load : Bool) (o : Option (List SystemArgument)) → n.arguments_nodes k load (y.back-SystemCall-arguments o) ≡ n.given (flat_map (argument_nodes k load)) o
unfolding n.arguments_nodes
arguments-made k load None = refl
arguments-made k load (Some as') = argument-hidden k load as'

system-made : (k : Setting) (u : Usage) (at : Place) (name : List ℕ) (o : Option (List SystemArgument)) → n.system_nodes k u (roll-SystemCall (record { place = at; name = name; arguments = o }))
    ≡ n.node k (n.system u (roll-SystemCall (record { place = at; name = name; arguments = o }))) ∷ n.given (flat_map (argument_nodes k (n.is_load name))) o
unfolding n.system_nodes
system-made k u at name o =
    subst (λ z. n.system_nodes k u z ≡ n.node k (n.system u z) ∷ n.given (flat_map (argument_nodes k (n.is_load name))) o)
    (sym (y.rolls-SystemCall' (record { place = at; name = name; arguments = o })))
    (ap (λ r. n.node k (n.system u (y.SystemCall' at name (y.back-SystemCall-arguments o))) ∷ r) (arguments-made k (n.is_load name) o))

-- a call of a system task or function
pub system-parts : (k : Setting) (u : Usage) (a : SystemCall) → n.system_nodes k u a ≡ n.node k (n.system u a) ∷ n.given (flat_map (argument_nodes k (n.is_load (out-SystemCall a).name))) (out-SystemCall a).arguments
system-parts k u a = subst (λ y. n.system_nodes k u y ≡ n.node k (n.system u y) ∷ n.given (flat_map (argument_nodes k (n.is_load (out-SystemCall a).name))) (out-SystemCall a).arguments) (roll-out-SystemCall a) (system-made k u (out-SystemCall a).place (out-SystemCall a).name (out-SystemCall a).arguments)

-- ---- primaries

pub nodes-Replication : (k : Setting) (at : Place) (count : Expression) (parts : List Expression) → n.primary_nodes k (v.Replication at count parts) ≡ n.node k (n.group at) ∷ (n.expression_nodes (constantly k) count ++ flat_map (n.expression_nodes k) parts)
unfolding n.primary_nodes
nodes-Replication k at count parts = rw (one-hidden (constantly k) count, row-hidden k parts) refl

pub nodes-Parenthesized : (k : Setting) (at : Place) (a : Expression) → n.primary_nodes k (v.Parenthesized at a) ≡ n.expression_nodes k a
unfolding n.primary_nodes
nodes-Parenthesized k at a = one-hidden k a

row_length-items : (m : _) (row : p.Row_of-Expression m) → n.row_length row ≡ length (p.items-the_row-Expression m row)
row_length-items m p.end_of-Expression = refl
row_length-items m (p.more_of-Expression a rest) = ap (λ i. i + 1) (row_length-items _ rest) ∙ add-one _

pub nodes-Call : (k : Setting) (name : Identifier) (parts : List Expression) → n.primary_nodes k (v.Call name parts) ≡ n.node k (n.call name (length parts)) ∷ flat_map (n.expression_nodes k) parts
unfolding n.primary_nodes
nodes-Call k name parts = rw (row_length-items _ (t.hidden-the_row-Expression-1 parts), p.items_hidden-the_row-Expression-1 parts, row-hidden k parts) refl

pub nodes-Number : (k : Setting) (at : Place) (a : Numeral) → n.primary_nodes k (v.Number at a) ≡ n.node k (n.number at a) ∷ []
unfolding n.primary_nodes
nodes-Number k at a = refl

pub nodes-Str : (k : Setting) (at : Place) (a : List ℕ) → n.primary_nodes k (v.Str at a) ≡ []
unfolding n.primary_nodes
nodes-Str k at a = refl

pub nodes-System : (k : Setting) (a : SystemCall) → n.primary_nodes k (v.System a) ≡ n.system_nodes k Operand a
unfolding n.primary_nodes
nodes-System k a = refl

pub nodes-Name : (k : Setting) (a : Name) → n.primary_nodes k (v.Name a) ≡ n.node k (n.value a) ∷ n.name_nodes k a
unfolding n.primary_nodes
nodes-Name k a = refl

pub ruleset expressions = (common_steps, expression-parts, name-parts, select-parts, system-parts, nodes-Name, nodes-Parenthesized, nodes-Concatenation, nodes-Replication, nodes-Call, nodes-System, nodes-Number, nodes-Str)
