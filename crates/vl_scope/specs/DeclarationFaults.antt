-- The faults of declarations: refused constructs 3, 4 and 7 (IEEE 1364-2005, clauses 4.2.2, 10.4.1, 12.3.2 and 12.3.3).
use Rattle.std.specs.Prelude.{◌≡◌, ℕ, Bool, true, false, not, ◌&&◌, ◌||◌, ◌==◌, List, [], ◌∷◌, ◌++◌, length, flat_map, Option, Some, None, is_some, IsTrue, IsSome}
use Rattle.std.specs.List.{list_any}
use Rattle.std.specs.Str.{bytes_eq}
use Rattle.vl_tree.specs.declared.tree.Identifier.{Identifier}
use Rattle.vl_tree.specs.declared.source_tree.Source.{Source}
use Rattle.vl_tree.specs.declared.source_tree.Module.{Module}
use Rattle.vl_tree.specs.declared.source_tree.Ports.{Ports}
use Rattle.vl_tree.specs.declared.source_tree.Ports.TheVariants as ps
use Rattle.vl_tree.specs.declared.source_tree.PortDeclaration.{PortDeclaration}
use Rattle.vl_tree.specs.declared.source_tree.Direction.{Direction}
use Rattle.vl_tree.specs.declared.source_tree.Direction.TheVariants as d
use Rattle.vl_tree.specs.declared.source_tree.Item.{Item}
use Rattle.vl_tree.specs.declared.source_tree.Item.TheVariants as i
use Rattle.vl_tree.specs.declared.source_tree.Function.{Function}
use Rattle.vl_scope.specs.declared.kind.Class.{Class}
use Rattle.vl_scope.specs.declared.kind.Class.TheVariants as c
use Rattle.vl_scope.specs.declared.fault.Fault.{Fault}
use Rattle.vl_scope.specs.Faults.{at, fault_if, each_after, In}
use Rattle.vl_scope.specs.Declarations.{Declared, declarations, port_declarations, function_declarations, function_inputs, body_inputs}

-- ---- what two declarations of one name may not be

-- it gives the direction input
abbrev pub is_input : Option Direction → Bool
is_input None = false
is_input (Some d.Input) = true
is_input (Some d.Output) = false

-- a parameter, a function or an instance: what no port may be
abbrev pub is_no_port : Class → Bool
is_no_port (c.Parameter n) = true
is_no_port (c.Function n) = true
is_no_port c.Instance = true
is_no_port _ = false

-- a memory
abbrev pub is_memory : Class → Bool
is_memory c.Memory = true
is_memory _ = false

-- a variable or a memory: what keeps what is assigned to it
abbrev pub is_stored : Class → Bool
is_stored c.Variable = true
is_stored class = is_memory class

-- two declarations of one name clash: both give a direction, or both say what the name is, or one gives a direction and
-- the other is a parameter, a function or an instance
abbrev pub clash : Declared → Declared → Bool
clash a b =
    (is_some a.direction && is_some b.direction)
    || (a.typed && b.typed)
    || (is_some a.direction && is_no_port b.kind.class)
    || (is_no_port a.kind.class && is_some b.direction)

-- two declarations of one name don't match: one gives the direction input and the other is a variable or a memory, or one
-- gives a direction and the other is a memory
abbrev pub mismatch : Declared → Declared → Bool
mismatch a b =
    (is_input a.direction && is_stored b.kind.class)
    || (is_stored a.kind.class && is_input b.direction)
    || (is_some a.direction && is_memory b.kind.class)
    || (is_memory a.kind.class && is_some b.direction)

-- ---- what is a fault

-- the names in a module's parentheses, where they are a list of bare names
abbrev pub listed_in : Option Ports → List Identifier
listed_in None = []
listed_in (Some ps.Empty) = []
listed_in (Some (ps.Names names)) = names
listed_in (Some (ps.Declarations ports)) = []

-- the names that a module's header lists
abbrev pub listed : Module → List Identifier
listed m = listed_in m.ports

-- these are the declarations of a scope of the source: of a module, or of a function in one
pub data IsScope (s : Source) : List Declared → Type 0 where
  of_module : (m : Module) → In m s.modules → IsScope s (declarations m)
  of_function : (m : Module) (a : Function) → In m s.modules → In (i.Function a) m.items → IsScope s (function_declarations a)

-- the faults of declarations, each at its place and with the number of its construct
pub data IsDeclarationFault (s : Source) : Fault → Type 0 where
  -- a name declared twice in a scope, in a way that clashes: at the later
  declared_twice : (all before after : List Declared) (earlier later : Declared) → IsScope s all → all ≡ before ++ later ∷ after → In earlier before
      → earlier.name.name ≡ later.name.name → IsTrue (clash earlier later) → IsDeclarationFault s (at later.name.place 3)
  -- an input that is a variable, or a port that is a memory: at the later declaration
  mismatched : (all before after : List Declared) (earlier later : Declared) → IsScope s all → all ≡ before ++ later ∷ after → In earlier before
      → earlier.name.name ≡ later.name.name → IsTrue (mismatch earlier later) → IsDeclarationFault s (at later.name.place 4)
  -- a name that a header lists twice: at the later
  listed_twice : (m : Module) (before after : List Identifier) (earlier later : Identifier) → In m s.modules → listed m ≡ before ++ later ∷ after → In earlier before
      → earlier.name ≡ later.name → IsDeclarationFault s (at later.place 3)
  -- a listed port to which no declaration gives a direction: at the name in the list
  undirected : (m : Module) (n : Identifier) → In m s.modules → In n (listed m)
      → ((a : Declared) → In a (declarations m) → a.name.name ≡ n.name → a.direction ≡ None) → IsDeclarationFault s (at n.place 7)
  -- a direction, among the items, for a name that no header's list has: at the name there
  unlisted : (m : Module) (p : PortDeclaration) (a : Declared) → In m s.modules → In (i.Port p) m.items → In a (port_declarations p)
      → ((n : Identifier) → In n (listed m) → n.name ≡ a.name.name → ⊥) → IsDeclarationFault s (at a.name.place 7)
  -- a function without an input: at its name
  no_input : (m : Module) (a : Function) → In m s.modules → In (i.Function a) m.items → function_inputs a ≡ [] → IsDeclarationFault s (at a.name.place 7)
  -- an input declared in a function's body, where inputs stand in its parentheses: at the name in the body
  input_beside : (m : Module) (a : Function) (n : Identifier) → In m s.modules → In (i.Function a) m.items → IsSome a.ports → In n (body_inputs a)
      → IsDeclarationFault s (at n.place 7)

-- ---- the faults as a list

-- an earlier declaration of the name with which this one clashes
abbrev pub clashes : List Declared → Declared → Bool
clashes before a = list_any (λ e. bytes_eq a.name.name e.name.name && clash e a) before

-- an earlier declaration of the name that this one doesn't match
abbrev pub mismatches : List Declared → Declared → Bool
mismatches before a = list_any (λ e. bytes_eq a.name.name e.name.name && mismatch e a) before

-- the faults at a declaration that follows others in its scope
abbrev pub declaration_faults_after : List Declared → Declared → List Fault
declaration_faults_after before a = fault_if (clashes before a) a.name.place 3 ++ fault_if (mismatches before a) a.name.place 4

-- the faults at the declarations of a scope
abbrev pub scope_faults : List Declared → List Fault
scope_faults ds = each_after declaration_faults_after [] ds

-- one of the names is spelled so
abbrev pub names_have : List Identifier → List ℕ → Bool
names_have names t = list_any (λ n. bytes_eq t n.name) names

-- the fault at a listed name that is listed before
abbrev pub repeated_after : List Identifier → Identifier → List Fault
repeated_after before n = fault_if (names_have before n.name) n.place 3

-- the faults at the listed names that are listed before
abbrev pub repeated_faults : List Identifier → List Fault
repeated_faults ns = each_after repeated_after [] ns

-- one of the declarations gives the name a direction
abbrev pub directs : List Declared → List ℕ → Bool
directs ds t = list_any (λ a. bytes_eq t a.name.name && is_some a.direction) ds

-- the faults at listed names without a direction
abbrev pub undirected_faults : List Declared → List Identifier → List Fault
undirected_faults ds ns = flat_map (λ n. fault_if (not (directs ds n.name)) n.place 7) ns

-- the declarations of ports that an item makes
abbrev pub item_ports : Item → List Declared
item_ports (i.Port p) = port_declarations p
item_ports _ = []

-- the faults at ports among the items that aren't listed
abbrev pub unlisted_faults : List Identifier → List Declared → List Fault
unlisted_faults ns ds = flat_map (λ a. fault_if (not (names_have ns a.name.name)) a.name.place 7) ds

-- the faults of a function
abbrev pub function_faults : Function → List Fault
function_faults a =
    scope_faults (function_declarations a)
    ++ (fault_if (length (function_inputs a) == 0) a.name.place 7
    ++ flat_map (λ n. fault_if (is_some a.ports) n.place 7) (body_inputs a))

-- the faults of the functions among the items
abbrev pub item_faults : Item → List Fault
item_faults (i.Function a) = function_faults a
item_faults _ = []

-- the faults of a module
abbrev pub module_faults : Module → List Fault
module_faults m =
    scope_faults (declarations m)
    ++ (repeated_faults (listed m)
    ++ (undirected_faults (declarations m) (listed m)
    ++ (unlisted_faults (listed m) (flat_map item_ports m.items)
    ++ flat_map item_faults m.items)))

-- the faults of declarations, in no special order
abbrev pub declaration_faults : Source → List Fault
declaration_faults s = flat_map module_faults s.modules
