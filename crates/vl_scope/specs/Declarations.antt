-- What a module and a function declare, and what a name means by its declarations (IEEE 1364-2005, clauses 4, 10.4, 12.3).
use Rattle.std.specs.Prelude.{ℕ, ◌+◌, Bool, true, false, not, ◌&&◌, ◌||◌, if◌then◌else◌, List, [], ◌∷◌, ◌++◌, length, map, flat_map, drop, fold, Option, Some, None, is_some}
use Rattle.std.specs.Borrow.{Bor}
use Rattle.std.specs.Option.{option_or, option_map_or}
use Rattle.std.specs.Str.{bytes_eq}
use Rattle.vl_tree.specs.declared.tree.Identifier.{Identifier}
use Rattle.vl_tree.specs.declared.source_tree.Module.{Module}
use Rattle.vl_tree.specs.declared.source_tree.ParameterType.{ParameterType}
use Rattle.vl_tree.specs.declared.source_tree.ParameterType.TheVariants as t
use Rattle.vl_tree.specs.declared.source_tree.ParameterAssignment.{ParameterAssignment}
use Rattle.vl_tree.specs.declared.source_tree.Ports.{Ports}
use Rattle.vl_tree.specs.declared.source_tree.Ports.TheVariants as ps
use Rattle.vl_tree.specs.declared.source_tree.PortDeclaration.{PortDeclaration}
use Rattle.vl_tree.specs.declared.source_tree.PortDeclaration.TheVariants as p
use Rattle.vl_tree.specs.declared.source_tree.Direction.{Direction}
use Rattle.vl_tree.specs.declared.source_tree.Direction.TheVariants as d
use Rattle.vl_tree.specs.declared.source_tree.Item.{Item}
use Rattle.vl_tree.specs.declared.source_tree.Item.TheVariants as i
use Rattle.vl_tree.specs.declared.source_tree.VariableMore.{VariableMore}
use Rattle.vl_tree.specs.declared.source_tree.VariableMore.TheVariants as v
use Rattle.vl_tree.specs.declared.source_tree.Function.{Function}
use Rattle.vl_tree.specs.declared.source_tree.FunctionPort.{FunctionPort}
use Rattle.vl_tree.specs.declared.source_tree.FunctionDeclaration.{FunctionDeclaration}
use Rattle.vl_tree.specs.declared.source_tree.FunctionDeclaration.TheVariants as f
use Rattle.vl_scope.specs.declared.kind.Class.{Class}
use Rattle.vl_scope.specs.declared.kind.Class.TheVariants as c
use Rattle.vl_scope.specs.declared.kind.Kind.{Kind}
use Rattle.vl_scope.specs.declared.declaration.Declaration.{Declaration}

-- a declaration of a name: the direction that it gives a port, whether it says what the name is, and what it is
pub record Declared : Type 0 where
  pub name : Identifier
  pub direction : Option Direction
  pub typed : Bool
  pub kind : Kind

-- a declaration that gives no direction: of a class, a vector or not
abbrev pub declared : Class → Bool → Identifier → Declared
declared class vector name = record { name = name; direction = None; typed = true; kind = record { class = class; vector = vector } }

-- a declaration of a port with nothing but its direction, or of a net too
abbrev pub port : Direction → Bool → Bool → Identifier → Declared
port direction wire vector name = record { name = name; direction = Some direction; typed = wire; kind = record { class = (if wire then c.Net else c.Port); vector = vector } }

-- a declaration of an output that is a variable
abbrev pub output_variable : Bool → Identifier → Declared
output_variable vector name = record { name = name; direction = Some d.Output; typed = true; kind = record { class = c.Variable; vector = vector } }

-- a type has bits to select: it has a range, or is `integer`
abbrev pub is_vector : ParameterType → Bool
is_vector t.Integer = true
is_vector (t.Vector signed range) = is_some range

-- ---- functions

-- the inputs in a function's parentheses
abbrev pub header_inputs : Function → List Identifier
header_inputs x = option_map_or (λ ports. flat_map (λ a. a.names) ports) x.ports []

-- the inputs that a declaration in a function's body declares
abbrev pub body_inputs_of : FunctionDeclaration → List Identifier
body_inputs_of (f.Input a) = a.names
body_inputs_of (f.Reg at signed range names) = []
body_inputs_of (f.Integer at names) = []

-- the inputs in a function's body
abbrev pub body_inputs : Function → List Identifier
body_inputs x = flat_map body_inputs_of x.declarations

-- the inputs of a function, in the order of the text
abbrev pub function_inputs : Function → List Identifier
function_inputs x = header_inputs x ++ body_inputs x

-- the variables that inputs are
abbrev pub input_declarations : FunctionPort → List Declared
input_declarations a = map (declared c.Variable (is_vector a.kind)) a.names

-- the variables that a declaration in a function's body declares
abbrev pub body_declarations : FunctionDeclaration → List Declared
body_declarations (f.Input a) = input_declarations a
body_declarations (f.Reg at signed range names) = map (declared c.Variable (is_some range)) names
body_declarations (f.Integer at names) = map (declared c.Variable true) names

-- the declarations in a function: first the variable of its name, which is its result; then, in the order of the text, its
-- inputs and variables (clauses 10.4.1 and 10.4.2)
abbrev pub function_declarations : Function → List Declared
function_declarations x = declared c.Variable (is_vector x.kind) x.name ∷ (option_map_or (flat_map input_declarations) x.ports [] ++ flat_map body_declarations x.declarations)

-- ---- modules

-- the declarations in a port declaration (clauses 12.3.3 and 12.3.4)
abbrev pub port_declarations : PortDeclaration → List Declared
port_declarations (p.Net at direction wire signed range names) = map (port direction wire (is_some range)) names
port_declarations (p.Reg at signed range assignments) = map (λ a. output_variable (is_some range) a.name) assignments
port_declarations (p.Integer at assignments) = map (λ a. output_variable true a.name) assignments

-- what `reg` or `integer` declares: a memory, where addresses stand behind the name (clause 4.9)
abbrev pub variable_class : Option VariableMore → Class
variable_class None = c.Variable
variable_class (Some (v.Words addresses)) = c.Memory
variable_class (Some (v.Value value)) = c.Variable

-- the parameters of a list, whose numbers aren't told yet
abbrev pub parameter_declarations : List ParameterAssignment → List Declared
parameter_declarations assignments = map (λ a. declared (c.Parameter 0) true a.name) assignments

-- the declarations that an item makes
abbrev pub item_declarations : Item → List Declared
item_declarations (i.Port a) = port_declarations a
item_declarations (i.Parameter at word type assignments) = parameter_declarations assignments
item_declarations (i.Wire at signed range assignments) = map (λ a. declared c.Net (is_some range) a.name) assignments
item_declarations (i.Reg at signed range variables) = map (λ a. declared (variable_class a.more) (is_some range) a.name) variables
item_declarations (i.Integer at variables) = map (λ a. declared (variable_class a.more) true a.name) variables
item_declarations (i.Assign at assignments) = []
item_declarations (i.Initial at statement) = []
item_declarations (i.Always at trigger statement) = []
item_declarations (i.Function a) = declared (c.Function (length (function_inputs a))) false a.name ∷ []
item_declarations (i.Instance a) = map (λ n. declared c.Instance false n.name) a.instances

-- the declarations in a module's parentheses: a list of bare names declares nothing
abbrev pub header_declarations : Ports → List Declared
header_declarations ps.Empty = []
header_declarations (ps.Names names) = []
header_declarations (ps.Declarations ports) = flat_map port_declarations ports

-- the declarations of a module in the order of the text, its parameters not yet numbered
abbrev pub unnumbered : Module → List Declared
unnumbered m = option_map_or (flat_map (λ g. parameter_declarations g.assignments)) m.parameters [] ++ (option_map_or header_declarations m.ports [] ++ flat_map item_declarations m.items)

-- whether a class is a parameter's
abbrev pub is_parameter : Class → Bool
is_parameter (c.Parameter n) = true
is_parameter _ = false

-- a declaration with its number, where it is a parameter's, and the number of the next
abbrev pub with_number : ℕ → Declared → Declared
with_number n a = if is_parameter a.kind.class then record a { kind = record { class = c.Parameter n; vector = a.kind.vector } } else a

abbrev pub number_after : ℕ → Declared → ℕ
number_after n a = if is_parameter a.kind.class then n + 1 else n

-- the declarations with their parameters numbered, from n on
abbrev pub numbered : ℕ → List Declared → List Declared
numbered n [] = []
numbered n (a ∷ ds) = with_number n a ∷ numbered (number_after n a) ds

-- the declarations of a module in the order of the text
abbrev pub declarations : Module → List Declared
declarations m = numbered 0 (unnumbered m)

-- ---- what a name means

-- a net or a variable: what a port may be
abbrev pub is_signal : Class → Bool
is_signal c.Net = true
is_signal c.Variable = true
is_signal class = false

-- a declaration adds to what is known of a name of this class: it says that a port, of which only the direction was told,
-- is a net or a variable, or tells only the direction of a net or a variable (clause 12.3.3). What clashes adds nothing
abbrev pub adds_to : Class → Declared → Bool
adds_to c.Port a = not (is_some a.direction) && is_signal a.kind.class
adds_to class a = is_some a.direction && not a.typed && is_signal class

-- a class, after a declaration that adds to it: it stays, unless only a direction was told
abbrev pub joined_class : Class → Class → Class
joined_class c.Port class = class
joined_class class _ = class

-- what is known and what a declaration adds: a range may stand at either
abbrev pub joined : Kind → Kind → Kind
joined known kind = record { class = joined_class known.class kind.class; vector = known.vector || kind.vector }

-- what a name means after one more declaration of it
abbrev pub with_declaration : Option Kind → Declared → Option Kind
with_declaration None a = Some a.kind
with_declaration (Some known) a = Some (if adds_to known.class a then joined known a.kind else known)

-- what a spelling means after one more declaration
abbrev pub kind_after : List ℕ → Option Kind → Declared → Option Kind
kind_after t known a = if bytes_eq t a.name.name then with_declaration known a else known

-- what a spelling means by declarations: what the first of that name says that it is, with what later ones add
abbrev pub kind_in : List Declared → List ℕ → Option Kind
kind_in ds t = fold (kind_after t) None ds

-- what a spelling means in a function of a module, by the module's declarations and the function's, which come first
-- (clause 12.7)
abbrev pub kind_within : List Declared → List Declared → List ℕ → Option Kind
kind_within outer inner t = option_or (kind_in inner t) (kind_in outer t)

-- what a called name means in a function of a module: the function's own name is the function there, and not its result
abbrev pub called_within : List Declared → List Declared → List ℕ → Option Kind
called_within outer inner t = kind_within outer (drop 1 inner) t

-- ---- what the program's values stand for

-- what a declaration says
abbrev pub seen : Declaration → Declared
seen a = record { name = a.name.now; direction = a.direction; typed = a.typed; kind = a.kind }

-- what declarations say
abbrev pub all_seen : List Declaration → List Declared
all_seen ds = map seen ds

-- what references to names point to
abbrev pub names_seen : List (Bor Identifier) → List Identifier
names_seen names = map (λ n. n.now) names
