-- The faults at the parts of a module, by what names mean there.
use Rattle.std.proofs.Common.{◌≡◌, ℕ, List, [], ◌∷◌, ◌++◌, map, length, drop, get_or, ◌<◌, ◌+◌, ◌≤◌, Option, None, refl, sym, ap, ◌∙◌}
use Rattle.std.specs.List.{flat_map}
use Rattle.std.specs.Option.{option_or}
use Rattle.std.proofs.lemmas.Grind.{flat_map-append}
use Rattle.std.proofs.lemmas.List.{at_drop_more, at_drop_all}
use Rattle.vl_tree.specs.declared.source_tree.Item.{Item}
use Rattle.vl_tree.specs.declared.source_tree.Item.TheVariants as i
use Rattle.vl_scope.specs.declared.fault.Fault.{Fault}
use Rattle.vl_scope.specs.Faults.{earliest}
use Rattle.vl_scope.proofs.Orders.{earliest-append}
use Rattle.vl_uses.specs.Settings.{behind}
use Rattle.vl_tree.specs.declared.source_tree.Function.{Function}
use Rattle.vl_scope.specs.Declarations.{Declared, declarations, all_seen, kind_in}
use Rattle.vl_scope.specs.declared.scope.Scope.{Scope}
use Rattle.vl_scope.specs.declared.declaration.Declaration.{Declaration}
use Rattle.vl_scope.specs.Scopes.{look}
use Rattle.vl_tree.specs.declared.source_tree.Module.{Module}
use Rattle.vl_uses.specs.Nodes.{Node, site, item_nodes, item_sites, items_sites, item_parameters, header_nodes, header_parameters}
use Rattle.vl_uses.specs.UseFaults.{meanings, inner_declarations, node_faults, site_faults, module_faults}
use Rattle.vl_uses.specs.Walks.{Knows, scoped, faults}

-- scopes mean what their declarations do
pub scoped-known : (o i c : Scope) (outer inner : List Declared) → Knows o outer → Knows i inner → Knows c (drop 1 inner) → scoped o i c ≡ meanings outer inner
scoped-known o i c outer inner e f g = λ x. record { read = λ t. option_or (f t x) (e t x); called = λ t. option_or (g t x) (e t x) }

-- a scope of the declarations that the program's values say
pub known-seen : (scope : Scope) (as' : List Declaration) (bs : List Declared) → ((t : List ℕ) → look scope t ≡ kind_in (all_seen as') t) → all_seen as' ≡ bs → Knows scope bs
known-seen scope as' bs h e = λ t. h t ∙ ap (λ l. kind_in l t) e

-- the faults at the parts of a function, or at parts outside functions
pub sites-within : (outer : List Declared) (within : Option Function) (nodes : List Node) → flat_map (site_faults outer) (map (site within) nodes) ≡ faults (meanings outer (inner_declarations within)) nodes
sites-within outer within [] = refl
sites-within outer within (x ∷ nodes) = ap (λ r. node_faults (meanings outer (inner_declarations within)) x ++ r) (sites-within outer within nodes)

-- an item that is no function
pub item_sites-other : (n : ℕ) (a : Item) → ((f : Function) → a ≡ i.Function f → ⊥) → item_sites n a ≡ map (site None) (item_nodes (behind n) a)
item_sites-other n (i.Port a) h = refl
item_sites-other n (i.Parameter at word type assignments) h = refl
item_sites-other n (i.Wire at signed range nets) h = refl
item_sites-other n (i.Reg at signed range variables) h = refl
item_sites-other n (i.Integer at variables) h = refl
item_sites-other n (i.Assign at assignments) h = refl
item_sites-other n (i.Initial at statement) h = refl
item_sites-other n (i.Always at trigger statement) h = refl
item_sites-other n (i.Function a) h = absurd (h a refl)
item_sites-other n (i.Instance a) h = refl

items-next : (n : ℕ) (a : Item) (as' : List Item) → items_sites n (a ∷ as') ≡ item_sites n a ++ items_sites (n + item_parameters a) as'
unfolding items_sites
items-next n a as' = refl

items-nil : (n : ℕ) → items_sites n [] ≡ []
unfolding items_sites
items-nil n = refl

-- the rest of some items begins with the next one
pub items-turn : (n p : ℕ) (items : List Item) (j : ℕ) (x : Item) → j < length items → x ≡ get_or items j x → p ≡ item_parameters x → items_sites n (drop j items) ≡ item_sites n x ++ items_sites (n + p) (drop (j + 1) items)
items-turn n p items j x h e f =
    at_drop_more (items_sites n) items j x h
    ∙ (ap (λ y. items_sites n (y ∷ drop (j + 1) items)) (sym e)
    ∙ (items-next n x (drop (j + 1) items) ∙ ap (λ q. item_sites n x ++ items_sites (n + q) (drop (j + 1) items)) (sym f)))

pub items-end : (n : ℕ) (items : List Item) (j : ℕ) → length items ≤ j → items_sites n (drop j items) ≡ []
items-end n items j h = at_drop_all (items_sites n) items j h ∙ items-nil n

-- one more item of the walk
pub items-walk : (outer : List Declared) (n p : ℕ) (items : List Item) (j : ℕ) (x : Item) (best new whole : Option Fault) → j < length items → x ≡ get_or items j x → p ≡ item_parameters x
    → new ≡ earliest best (flat_map (site_faults outer) (item_sites n x)) → earliest best (flat_map (site_faults outer) (items_sites n (drop j items))) ≡ whole
    → earliest new (flat_map (site_faults outer) (items_sites (n + p) (drop (j + 1) items))) ≡ whole
items-walk outer n p items j x best new whole h e f g before =
    let rest = items_sites (n + p) (drop (j + 1) items) in
    ap (λ b. earliest b (flat_map (site_faults outer) rest)) g
    ∙ (sym (earliest-append best (flat_map (site_faults outer) (item_sites n x)) (flat_map (site_faults outer) rest))
    ∙ (ap (earliest best) (sym (flat_map-append (site_faults outer) (item_sites n x) rest))
    ∙ (ap (λ l. earliest best (flat_map (site_faults outer) l)) (sym (items-turn n p items j x h e f)) ∙ before)))

-- the walk over a module
pub module-walk : (m : Module) (n : ℕ) (items : List Item) (best header : Option Fault) → n ≡ header_parameters m.parameters → items ≡ m.items
    → header ≡ earliest best (faults (meanings (declarations m) []) (header_nodes m)) → earliest header (flat_map (site_faults (declarations m)) (items_sites n items)) ≡ earliest best (module_faults m)
unfolding module_faults
module-walk m n items best header e f g =
    let outer = declarations m in
    let heads = map (site None) (header_nodes m) in
    ap (λ k. earliest header (flat_map (site_faults outer) (items_sites k items))) e
    ∙ (ap (λ l. earliest header (flat_map (site_faults outer) (items_sites (header_parameters m.parameters) l))) f
    ∙ (ap (λ b. earliest b (flat_map (site_faults outer) (items_sites (header_parameters m.parameters) m.items))) (g ∙ ap (earliest best) (sym (sites-within outer None (header_nodes m))))
    ∙ (sym (earliest-append best (flat_map (site_faults outer) heads) (flat_map (site_faults outer) (items_sites (header_parameters m.parameters) m.items)))
    ∙ ap (earliest best) (sym (flat_map-append (site_faults outer) heads (items_sites (header_parameters m.parameters) m.items))))))
