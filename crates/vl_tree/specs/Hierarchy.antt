-- The modules of a source: what they instantiate, which is the top, their ports and the parameters that an instance may
-- override (IEEE 1364-2005, clauses 4.10, 12.1, 12.2 and 12.3).
use Rattle.std.specs.Prelude.{ℕ, zero, suc, Bool, not, nat_eq, if◌then◌else◌, List, [], ◌∷◌, length, map, flat_map, Option, Some, None}
use Rattle.std.specs.List.{list_any, position}
use Rattle.std.specs.Option.{option_map_or, option_to_list}
use Rattle.std.specs.Str.{bytes_eq}
use Rattle.vl_tree.specs.declared.tree.Identifier.{Identifier}
use Rattle.vl_tree.specs.declared.source_tree.Source.{Source}
use Rattle.vl_tree.specs.declared.source_tree.Module.{Module}
use Rattle.vl_tree.specs.declared.source_tree.ParameterAssignment.{ParameterAssignment}
use Rattle.vl_tree.specs.declared.source_tree.ParameterKeyword.{ParameterKeyword}
use Rattle.vl_tree.specs.declared.source_tree.ParameterKeyword.TheVariants as k
use Rattle.vl_tree.specs.declared.source_tree.Ports.{Ports}
use Rattle.vl_tree.specs.declared.source_tree.Ports.TheVariants as p
use Rattle.vl_tree.specs.declared.source_tree.PortDeclaration.{PortDeclaration}
use Rattle.vl_tree.specs.declared.source_tree.PortDeclaration.TheVariants as d
use Rattle.vl_tree.specs.declared.source_tree.Item.{Item}
use Rattle.vl_tree.specs.declared.source_tree.Item.TheVariants as i
use Rattle.vl_tree.specs.declared.source_tree.Instance.{Instance}

-- ---- what a module instantiates

-- the instance that an item is; several of one module that stand together are one
abbrev pub item_instances : Item → List Instance
item_instances (i.Instance u) = u ∷ []
item_instances _ = []

-- the instances in a module, in order
abbrev pub instances : Module → List Instance
instances m = flat_map item_instances m.items

-- the number, from 0, of the module that a name means: the first so called
abbrev pub module_number : Source → List ℕ → Option ℕ
module_number s t = position (λ m. bytes_eq t m.name.name) s.modules

-- the numbers of the modules that a module instantiates, by what names mean
abbrev pub steps_of : (List ℕ → Option ℕ) → Module → List ℕ
steps_of number m = flat_map (λ u. option_to_list (number u.definition.name)) (instances m)

-- for each module the numbers of those that it instantiates
abbrev pub graph_of : Source → List (List ℕ)
graph_of s = map (steps_of (module_number s)) s.modules

-- ---- tops, by such a graph

-- the number of a top: of a module that no module instantiates (clause 12.1.1)
abbrev pub is_top : List (List ℕ) → ℕ → Bool
is_top graph n = not (list_any (list_any (nat_eq n)) graph)

-- the first number that passes a test, of so many from one on
abbrev pub first_from : (ℕ → Bool) → ℕ → ℕ → Option ℕ
first_from passes n zero = None
first_from passes n (suc more) = if passes n then Some n else first_from passes (suc n) more

-- the number of the first top
abbrev pub first_top : List (List ℕ) → Option ℕ
first_top graph = first_from (is_top graph) 0 (length graph)

-- ---- ports

-- the names that a port declaration declares (clause 12.3.3)
abbrev pub declared_names : PortDeclaration → List Identifier
declared_names (d.Net at direction wire signed range names) = names
declared_names (d.Reg at signed range names) = map (λ a. a.name) names
declared_names (d.Integer at names) = map (λ a. a.name) names

-- the ports that stand in a module's parentheses (clause 12.3.2)
abbrev pub header_names : Option Ports → List Identifier
header_names None = []
header_names (Some p.Empty) = []
header_names (Some (p.Names names)) = names
header_names (Some (p.Declarations declarations)) = flat_map declared_names declarations

-- the ports of a module, in the order of its header
abbrev pub ports : Module → List Identifier
ports m = header_names m.ports

-- ---- the parameters that an instance may override

-- the parameters of a list
abbrev pub assigned : List ParameterAssignment → List Identifier
assigned assignments = map (λ a. a.name) assignments

-- those that the keyword `parameter` declares: local parameters stay as they are (clause 4.10.2)
abbrev pub keyword_parameters : ParameterKeyword → List ParameterAssignment → List Identifier
keyword_parameters k.Parameter assignments = assigned assignments
keyword_parameters k.Local assignments = []

-- those that an item declares
abbrev pub item_parameters : Item → List Identifier
item_parameters (i.Parameter at keyword type assignments) = keyword_parameters keyword assignments
item_parameters _ = []

-- those of the header where it declares parameters, else those of the items, in order (clauses 12.1 and 12.2.2)
abbrev pub overridable : Module → List Identifier
overridable m = option_map_or (flat_map (λ g. assigned g.assignments)) m.parameters (flat_map item_parameters m.items)
