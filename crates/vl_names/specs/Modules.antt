-- The modules of a source: which instantiate which, and what the ports of a top are (IEEE 1364-2005, clause 12).
use Rattle.std.specs.Prelude.{◌≡◌, ℕ, Bool, false, if◌then◌else◌, List, [], ◌∷◌, ◌++◌, flat_map, slice_get, Option, Some, None}
use Rattle.vl_scope.specs.vl_tree.specs.declared.tree.Identifier.{Identifier}
use Rattle.vl_scope.specs.vl_tree.specs.declared.source_tree.Source.{Source}
use Rattle.vl_scope.specs.vl_tree.specs.declared.source_tree.Module.{Module}
use Rattle.vl_scope.specs.vl_tree.specs.declared.source_tree.Ports.{Ports}
use Rattle.vl_scope.specs.vl_tree.specs.declared.source_tree.Ports.TheVariants as p
use Rattle.vl_scope.specs.vl_tree.specs.declared.source_tree.PortDeclaration.{PortDeclaration}
use Rattle.vl_scope.specs.vl_tree.specs.declared.source_tree.PortDeclaration.TheVariants as d
use Rattle.vl_scope.specs.vl_tree.specs.declared.source_tree.Direction.{Direction}
use Rattle.vl_scope.specs.vl_tree.specs.declared.source_tree.Direction.TheVariants.{Output}
use Rattle.vl_scope.specs.vl_tree.specs.declared.source_tree.Item.{Item}
use Rattle.vl_scope.specs.vl_tree.specs.declared.source_tree.Item.TheVariants as i
use Rattle.vl_scope.specs.vl_tree.specs.declared.source_tree.Instance.{Instance}
use Rattle.vl_scope.specs.vl_tree.specs.Hierarchy.{instances, module_number, declared_names, ports}
use Rattle.vl_scope.specs.DeclarationFaults.{is_input, names_have}
use Rattle.vl_scope.specs.Faults.{In}

-- ---- what modules instantiate

-- the instances in the modules of a source
abbrev pub all_instances : Source → List Instance
all_instances s = flat_map instances s.modules

-- the module number i has an instance of the module number j
pub record Instantiates (s : Source) (i j : ℕ) : Type 0 where
  pub whole : Module
  pub instance : Instance
  pub at : slice_get s.modules i ≡ Some whole
  pub among : In instance (instances whole)
  pub means : module_number s instance.definition.name ≡ Some j

-- a path of steps, at least one
pub data Leads (step : ℕ → ℕ → Type 0) : ℕ → ℕ → Type 0 where
  along : {a b : ℕ} → step a b → Leads step a b
  on : {a b c : ℕ} → Leads step a b → step b c → Leads step a c

-- ---- the ports of a module

-- the direction that a port declaration gives the names that it declares
abbrev pub direction : PortDeclaration → Direction
direction (d.Net at given wire signed range names) = given
direction (d.Reg at signed range names) = Output
direction (d.Integer at names) = Output

-- the port declarations in a module's parentheses
abbrev pub header_declarations : Option Ports → List PortDeclaration
header_declarations None = []
header_declarations (Some p.Empty) = []
header_declarations (Some (p.Names names)) = []
header_declarations (Some (p.Declarations declarations)) = declarations

-- the port declaration that an item is (clause 12.3.3)
abbrev pub item_declarations : Item → List PortDeclaration
item_declarations (i.Port declaration) = declaration ∷ []
item_declarations _ = []

-- the port declarations of a module, in order
abbrev pub port_declarations : Module → List PortDeclaration
port_declarations m = header_declarations m.ports ++ flat_map item_declarations m.items

-- the direction that the first declaration of a name gives it
abbrev pub first_direction : List PortDeclaration → List ℕ → Option Direction
first_direction [] t = None
first_direction (d ∷ ds) t = if names_have (declared_names d) t then Some (direction d) else first_direction ds t

-- these ports are one, and these declarations make it an input
abbrev pub is_one_input : List PortDeclaration → List Identifier → Bool
is_one_input declarations [] = false
is_one_input declarations (name ∷ []) = is_input (first_direction declarations name.name)
is_one_input declarations (name ∷ other ∷ more) = false

-- the ports of a module are one input
abbrev pub has_one_input : Module → Bool
has_one_input m = is_one_input (port_declarations m) (ports m)
