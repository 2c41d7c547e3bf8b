-- The plain data of items and modules.
use Rattle.std.specs.Prelude.{ℕ, Bool, false, List, [], ◌∷◌, ◌++◌, map, flat_map, option_map}
use Rattle.std.specs.Option.{option_map_or}
use Rattle.vl_tree.specs.declared.tree.Identifier.{Identifier}
use Rattle.elab_plain.specs.declared.items.Bounds.{Bounds}
use Rattle.elab_plain.specs.declared.items.DataType.{DataType}
use Rattle.elab_plain.specs.declared.items.DataType.TheVariants as t
use Rattle.elab_plain.specs.declared.items.Declared.{Declared}
use Rattle.elab_plain.specs.declared.items.Parameter.{Parameter}
use Rattle.elab_plain.specs.declared.items.Setting.{Setting}
use Rattle.elab_plain.specs.declared.items.Locals.{Locals}
use Rattle.elab_plain.specs.declared.items.Function.{Function}
use Rattle.elab_plain.specs.declared.items.Connection.{Connection}
use Rattle.elab_plain.specs.declared.items.NamedUnit.{NamedUnit}
use Rattle.elab_plain.specs.declared.items.Instances.{Instances}
use Rattle.elab_plain.specs.declared.items.Item.{Item}
use Rattle.elab_plain.specs.declared.items.Item.TheVariants as i
use Rattle.elab_plain.specs.declared.items.Module.{Module}
use Rattle.vl_tree.specs.declared.source_tree.Assignment.{Assignment}
use Rattle.vl_tree.specs.declared.source_tree.DeclarationAssignment.{DeclarationAssignment}
use Rattle.vl_tree.specs.declared.source_tree.ParameterGroup.{ParameterGroup}
use Rattle.vl_tree.specs.declared.source_tree.PortDeclaration.{PortDeclaration}
use Rattle.vl_tree.specs.declared.source_tree.Module.{Module as ModuleTree}
use Rattle.vl_flat.specs.Items as x
use Rattle.vl_flat.specs.Binding.{ex, left}
use Rattle.vl_tree.specs.Hierarchy.{assigned}
use Rattle.vl_flat.specs.Declarations.{ports_in, header_parameters, header_ports, item}
use Rattle.elab_plain.specs.Seen.{seen}
use Rattle.elab_plain.specs.SeenStatements.{seen_left, seen_statement}

-- the bounds of a range
abbrev pub seen_bounds : Bounds → x.Bounds
seen_bounds b = record { left = seen b.left; right = seen b.right }

-- the type of a declaration
abbrev pub seen_type : DataType → x.DataType
seen_type t.Integer = x.Integer
seen_type (t.Vector signed range) = x.Vector signed (option_map seen_bounds range)

-- a declaration, of this type
abbrev pub seen_declared : x.DataType → Declared → x.Declared
seen_declared type a = record {
  name = a.name;
  direction = a.direction;
  variable = a.variable;
  type = type;
  words = option_map seen_bounds a.words;
  value = option_map seen a.value;
}

-- a parameter with its default
abbrev pub seen_parameter : Parameter → x.Parameter
seen_parameter a = record { name = a.name; value = seen a.value }

-- a left side with its right side
abbrev pub seen_setting : Setting → x.Setting
seen_setting a = record { target = seen_left a.target; value = seen a.value }

-- the grammar's assignment
abbrev pub setting : Assignment → x.Setting
setting a = record { target = left a.target; value = ex a.value }

-- a variable of a function, of this type
abbrev pub seen_local : x.DataType → Bool → Bool → Identifier → x.Local
seen_local type is_input is_free n = record { name = n; type = type; is_input = is_input; is_free = is_free }

-- variables of a function that are declared together
abbrev pub seen_locals : Locals → List x.Local
seen_locals a = map (seen_local (seen_type a.kind) a.is_input a.is_free) a.names.items

-- a function: its result stands first
abbrev pub seen_function : Function → x.Function
seen_function a = record {
  name = a.name;
  type = seen_type a.kind;
  locals = seen_local (seen_type a.kind) false false a.name ∷ flat_map seen_locals a.locals.items;
  body = seen_statement a.body;
}

-- a connection, or an override
abbrev pub seen_connection : Connection → x.Connection
seen_connection a = record { place = a.place; name = a.name; value = option_map seen a.value }

-- one instance of a list
abbrev pub seen_unit : NamedUnit → x.NamedUnit
seen_unit a = record { name = a.name; connections = map seen_connection a.connections.items }

-- instances of one module
abbrev pub seen_instances : Instances → x.Instances
seen_instances a = record {
  place = a.place;
  definition = a.definition;
  overrides = map seen_connection a.overrides.items;
  units = map seen_unit a.units.items;
}

-- an item; the declarations of one item have one type
abbrev pub seen_item : Item → x.Item
seen_item (i.Parameters kind as') = x.Parameters (seen_type kind) (map seen_parameter as'.items)
seen_item (i.Signals kind as') = x.Signals (map (seen_declared (seen_type kind)) as'.items)
seen_item (i.Assigns as') = x.Assigns (map seen_setting as'.items)
seen_item (i.Initial at a) = x.Initial at (seen_statement a)
seen_item (i.Always at trigger a) = x.Always at trigger (seen_statement a)
seen_item (i.Functions a) = x.Functions (seen_function a)
seen_item (i.Instantiates a) = x.Instantiates (seen_instances a)

-- the name that is declared
abbrev pub declared_name : DeclarationAssignment → Identifier
declared_name a = a.name

-- a group's parameters
abbrev pub group_parameters : ParameterGroup → List Identifier
group_parameters g = assigned g.assignments

-- the grammar's declaration of ports, as an item
abbrev pub port_item : PortDeclaration → x.Item
port_item a = x.Signals (ports_in a)

-- the items of the grammar's module
abbrev pub items_of : ModuleTree → List x.Item
items_of m = option_map_or (map header_parameters) m.parameters [] ++ (header_ports m.ports ++ map item m.items)

-- a module
abbrev pub seen_module : Module → x.Module
seen_module m = record { name = m.name; ports = m.ports.items; parameters = m.parameters.items; items = map seen_item m.items.items }
