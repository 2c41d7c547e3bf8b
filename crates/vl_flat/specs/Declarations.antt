-- The plain data of modules (IEEE 1364-2005, clauses 4, 10.4 and 12).
use Rattle.std.specs.Prelude.{Bool, true, false, List, [], ◌∷◌, ◌++◌, map, flat_map, Option, Some, None, option_map}
use Rattle.std.specs.Option.{option_map_or}
use Rattle.vl_tree.specs.declared.tree.Identifier.{Identifier}
use Rattle.vl_tree.specs.declared.source_tree.Source.{Source}
use Rattle.vl_tree.specs.declared.source_tree.Module.{Module as ModuleTree}
use Rattle.vl_tree.specs.declared.source_tree.ParameterGroup.{ParameterGroup}
use Rattle.vl_tree.specs.declared.source_tree.ParameterType.{ParameterType}
use Rattle.vl_tree.specs.declared.source_tree.ParameterType.TheVariants as t
use Rattle.vl_tree.specs.declared.source_tree.ParameterAssignment.{ParameterAssignment}
use Rattle.vl_tree.specs.Hierarchy as h
use Rattle.vl_tree.specs.declared.source_tree.Ports.{Ports}
use Rattle.vl_tree.specs.declared.source_tree.Ports.TheVariants as ps
use Rattle.vl_tree.specs.declared.source_tree.PortDeclaration.{PortDeclaration}
use Rattle.vl_tree.specs.declared.source_tree.PortDeclaration.TheVariants as p
use Rattle.vl_tree.specs.declared.source_tree.DeclarationAssignment.{DeclarationAssignment}
use Rattle.vl_tree.specs.declared.source_tree.Direction.{Direction}
use Rattle.vl_tree.specs.declared.source_tree.Direction.TheVariants.{Output}
use Rattle.vl_tree.specs.declared.source_tree.Range.{Range}
use Rattle.vl_tree.specs.declared.source_tree.Item.{Item as ItemTree}
use Rattle.vl_tree.specs.declared.source_tree.Item.TheVariants as i
use Rattle.vl_tree.specs.declared.source_tree.VariableType.{VariableType}
use Rattle.vl_tree.specs.declared.source_tree.VariableMore.{VariableMore}
use Rattle.vl_tree.specs.declared.source_tree.VariableMore.TheVariants as v
use Rattle.vl_tree.specs.declared.source_tree.Function.{Function as FunctionTree}
use Rattle.vl_tree.specs.declared.source_tree.FunctionPort.{FunctionPort}
use Rattle.vl_tree.specs.declared.source_tree.FunctionDeclaration.{FunctionDeclaration}
use Rattle.vl_tree.specs.declared.source_tree.FunctionDeclaration.TheVariants as f
use Rattle.vl_tree.specs.declared.source_tree.Instance.{Instance}
use Rattle.vl_tree.specs.declared.source_tree.NamedInstance.{NamedInstance}
use Rattle.vl_tree.specs.declared.source_tree.Connection.{Connection as ConnectionTree}
use Rattle.vl_tree.specs.declared.source_tree.Connection.TheVariants as c
use Rattle.vl_flat.specs.Surface.{Ex}
use Rattle.vl_flat.specs.Binding.{ex, left, statement}
use Rattle.vl_flat.specs.Items.{Bounds, DataType, Integer, Vector, Declared, Parameter, Local, Function, Connection, NamedUnit, Instances, Item, Parameters, Signals, Assigns, Initial, Always, Functions, Instantiates, Module}

abbrev pub bounds : Range → Bounds
bounds r = record { left = ex r.left; right = ex r.right }

abbrev pub type : ParameterType → DataType
type t.Integer = Integer
type (t.Vector signed range) = Vector signed (option_map bounds range)

-- ---- signals

abbrev pub net : Option Direction → DataType → Identifier → Declared
net direction type n = record { name = n; direction = direction; variable = false; type = type; words = None; value = None }

abbrev pub assigned_net : DataType → DeclarationAssignment → Declared
assigned_net type a = record { name = a.name; direction = None; variable = false; type = type; words = None; value = option_map ex a.value }

abbrev pub output_variable : DataType → DeclarationAssignment → Declared
output_variable type a = record { name = a.name; direction = Some Output; variable = true; type = type; words = None; value = option_map ex a.value }

abbrev pub words_in : Option VariableMore → Option Bounds
words_in (Some (v.Words range)) = Some (bounds range)
words_in more = None

abbrev pub value_in : Option VariableMore → Option Ex
value_in (Some (v.Value e)) = Some (ex e)
value_in more = None

abbrev pub variable : DataType → VariableType → Declared
variable type a = record { name = a.name; direction = None; variable = true; type = type; words = words_in a.more; value = value_in a.more }

-- `[ "signed" ] [ range ]`
abbrev pub vector : Bool → Option Range → DataType
vector signed range = Vector signed (option_map bounds range)

-- what a port declaration declares (clauses 12.3.3 and 12.3.4)
abbrev pub ports_in : PortDeclaration → List Declared
ports_in (p.Net at direction wire signed range names) = map (net (Some direction) (vector signed range)) names
ports_in (p.Reg at signed range as') = map (output_variable (vector signed range)) as'
ports_in (p.Integer at as') = map (output_variable Integer) as'

-- ---- functions (clause 10.4.1)

abbrev pub local : Bool → Bool → DataType → Identifier → Local
local is_input is_free type n = record { name = n; type = type; is_input = is_input; is_free = is_free }

abbrev pub inputs_in : FunctionPort → List Local
inputs_in a = map (local true false (type a.kind)) a.names

abbrev pub locals_in : FunctionDeclaration → List Local
locals_in (f.Input a) = inputs_in a
locals_in (f.Reg at signed range names) = map (local false true (vector signed range)) names
locals_in (f.Integer at names) = map (local false true Integer) names

-- the result has the function's name and type
abbrev pub function : FunctionTree → Function
function a = record {
  name = a.name;
  type = type a.kind;
  locals = local false false (type a.kind) a.name ∷ (option_map_or (flat_map inputs_in) a.ports [] ++ flat_map locals_in a.declarations);
  body = statement a.statement;
}

-- ---- instances (clauses 12.2 and 12.3)

abbrev pub connection : ConnectionTree → Connection
connection (c.Ordered at e) = record { place = at; name = None; value = option_map ex e }
connection (c.Named at n e) = record { place = at; name = Some n.name; value = option_map ex e }

abbrev pub named_instance : NamedInstance → NamedUnit
named_instance u = record { name = u.name; connections = map connection u.connections }

abbrev pub instances : Instance → Instances
instances a = record {
  place = a.place;
  definition = a.definition.name;
  overrides = option_map_or (map connection) a.overrides [];
  units = map named_instance a.instances;
}

-- ---- items

abbrev pub parameter : ParameterAssignment → Parameter
parameter a = record { name = a.name; value = ex a.value }

abbrev pub item : ItemTree → Item
item (i.Port a) = Signals (ports_in a)
item (i.Parameter at word kind as') = Parameters (type kind) (map parameter as')
item (i.Wire at signed range as') = Signals (map (assigned_net (vector signed range)) as')
item (i.Reg at signed range as') = Signals (map (variable (vector signed range)) as')
item (i.Integer at as') = Signals (map (variable Integer) as')
item (i.Assign at as') = Assigns (map (λ a. record { target = left a.target; value = ex a.value }) as')
item (i.Initial at a) = Initial at (statement a)
item (i.Always at trigger a) = Always at trigger (statement a)
item (i.Function a) = Functions (function a)
item (i.Instance a) = Instantiates (instances a)

-- ---- modules

abbrev pub header_parameters : ParameterGroup → Item
header_parameters g = Parameters (type g.kind) (map parameter g.assignments)

abbrev pub header_ports : Option Ports → List Item
header_ports (Some (ps.Declarations ports)) = map (λ a. Signals (ports_in a)) ports
header_ports ports = []

abbrev pub module' : ModuleTree → Module
module' m = record {
  name = m.name;
  ports = h.ports m;
  parameters = h.overridable m;
  items = option_map_or (map header_parameters) m.parameters [] ++ (header_ports m.ports ++ map item m.items);
}

abbrev pub modules : Source → List Module
modules s = map module' s.modules
