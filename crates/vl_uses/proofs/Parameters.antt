-- How many parameters a module declares.
use Rattle.std.proofs.Common.{◌≡◌, ℕ, suc, ◌+◌, ◌≤◌, true, if◌then◌else◌, List, [], ◌∷◌, ◌++◌, length, Option, Some, None, refl, ap, length-append, arith}
use Rattle.std.specs.List.{flat_map}
use Rattle.std.specs.Option.{option_map_or}
use Rattle.std.proofs.lemmas.List.{length-map}
use Rattle.std.proofs.lemmas.List.Concat.{length-flat_map}
use Rattle.std.proofs.lemmas.List.Sums.{sum_by-le-sum_by}
use Rattle.vl_tree.specs.declared.source_tree.Module.{Module}
use Rattle.vl_tree.specs.declared.source_tree.Item.{Item}
use Rattle.vl_tree.specs.declared.source_tree.Item.TheVariants as i
use Rattle.vl_tree.specs.declared.source_tree.ParameterGroup.{ParameterGroup}
use Rattle.vl_scope.specs.declared.kind.Class.TheVariants.{Parameter}
use Rattle.vl_scope.specs.Declarations.{Declared, declared, declarations, numbered, item_declarations, parameter_declarations, header_declarations, is_parameter}
use Rattle.vl_uses.specs.Nodes.{item_parameters, items_parameters, header_parameters}

numbered-length : (n : ℕ) (as' : List Declared) → length (numbered n as') ≡ length as'
numbered-length n [] = refl
numbered-length n (a ∷ as') = ap suc (numbered-length (if is_parameter a.kind.class then n + 1 else n) as')

item-declared : (a : Item) → item_parameters a ≤ length (item_declarations a)
item-declared (i.Port a) = omega arith
item-declared (i.Parameter at word type assignments) = omega (arith, length-map assignments (λ a. declared (Parameter 0) true a.name))
item-declared (i.Wire at signed range nets) = omega arith
item-declared (i.Reg at signed range variables) = omega arith
item-declared (i.Integer at variables) = omega arith
item-declared (i.Assign at assignments) = omega arith
item-declared (i.Initial at statement) = omega arith
item-declared (i.Always at trigger statement) = omega arith
item-declared (i.Function a) = omega arith
item-declared (i.Instance a) = omega arith

items-declared : (as' : List Item) → items_parameters as' ≤ length (flat_map item_declarations as')
items-declared as' = omega (arith, sum_by-le-sum_by item_parameters (λ a. length (item_declarations a)) as' item-declared, length-flat_map item_declarations as')

abbrev group_declared : ParameterGroup → List Declared
group_declared g = parameter_declarations g.assignments

header-declared : (o : Option (List ParameterGroup)) → header_parameters o ≤ length (option_map_or (flat_map group_declared) o [])
header-declared None = omega arith
header-declared (Some as') = omega (arith, sum_by-le-sum_by (λ (g : ParameterGroup). length g.assignments) (λ g. length (group_declared g)) as' (λ g. omega (arith, length-map g.assignments (λ a. declared (Parameter 0) true a.name))), length-flat_map group_declared as')

-- the parameters of a module are among its declarations
pub parameters-declared : (m : Module) → header_parameters m.parameters + items_parameters m.items ≤ length (declarations m)
parameters-declared m =
    let heads = option_map_or (flat_map group_declared) m.parameters [] in
    let ports = option_map_or header_declarations m.ports [] in
    let items = flat_map item_declarations m.items in
    omega (arith, header-declared m.parameters, items-declared m.items, numbered-length 0 (heads ++ (ports ++ items)), length-append heads (ports ++ items), length-append ports items)
