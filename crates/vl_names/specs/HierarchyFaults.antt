-- The faults of the modules of a source: refused constructs 5, 6 and 7.
use Rattle.std.specs.Prelude.{◌≡◌, ℕ, Bool, true, false, not, ◌&&◌, ◌||◌, nat_eq, is_some, List, [], ◌∷◌, ◌++◌, length, flat_map, slice_get, Option, Some, None}
use Rattle.std.specs.List.{list_any}
use Rattle.std.specs.Option.{option_map_or}
use Rattle.std.specs.Str.{bytes_eq}
use Rattle.vl_scope.specs.vl_tree.specs.declared.source_tree.Source.{Source}
use Rattle.vl_scope.specs.vl_tree.specs.declared.source_tree.Module.{Module}
use Rattle.vl_scope.specs.vl_tree.specs.declared.source_tree.Instance.{Instance}
use Rattle.vl_scope.specs.vl_tree.specs.declared.source_tree.NamedInstance.{NamedInstance}
use Rattle.vl_scope.specs.vl_tree.specs.declared.source_tree.Connection.{Connection}
use Rattle.vl_scope.specs.declared.fault.Fault.{Fault}
use Rattle.vl_scope.specs.DeclarationFaults.{names_have}
use Rattle.vl_scope.specs.Faults.{at, In, fault_if, each_after}
use Rattle.vl_scope.specs.vl_tree.specs.Hierarchy.{instances, module_number, graph_of, is_top, first_top, ports, overridable}
use Rattle.vl_names.specs.Modules.{all_instances, Instantiates, Leads, has_one_input}
use Rattle.vl_names.specs.Walks.{is_cyclic}
use Rattle.vl_names.specs.Connections.{IsConnectionFault, connection_faults}

-- m is the module that an instance is of
abbrev pub IsOf : Source → Instance → Module → Type 0
IsOf s u m = (j : ℕ) × (module_number s u.definition.name ≡ Some j) × (slice_get s.modules j ≡ Some m)

-- the faults of the modules of a source, each at its place and with the number of its construct
pub data IsHierarchyFault (s : Source) : Fault → Type 0 where
  -- an instance of a module that isn't there: at its first token
  absent : (m : Module) (u : Instance) → In m s.modules → In u (instances m) → module_number s u.definition.name ≡ None → IsHierarchyFault s (at u.place 5)
  -- a module defined twice: at the later's name
  defined_twice : (before after : List Module) (m : Module) → s.modules ≡ before ++ m ∷ after → list_any (λ b. bytes_eq m.name.name b.name.name) before ≡ true → IsHierarchyFault s (at m.name.place 5)
  -- a module that contains itself: at its name
  contains_itself : (i : ℕ) (m : Module) → slice_get s.modules i ≡ Some m → Leads (Instantiates s) i i → IsHierarchyFault s (at m.name.place 5)
  -- no top: at the first module's name
  no_top : (m : Module) (after : List Module) → s.modules ≡ m ∷ after → first_top (graph_of s) ≡ None → IsHierarchyFault s (at m.name.place 6)
  -- a second top: at its name
  second_top : (i : ℕ) (m : Module) → slice_get s.modules i ≡ Some m → is_top (graph_of s) i ≡ true → (first_top (graph_of s) ≡ Some i → ⊥) → IsHierarchyFault s (at m.name.place 6)
  -- a top whose ports aren't one input: at its name
  top_ports : (i : ℕ) (m : Module) → slice_get s.modules i ≡ Some m → is_top (graph_of s) i ≡ true → has_one_input m ≡ false → IsHierarchyFault s (at m.name.place 6)
  -- an override of a parameter
  override : (m of : Module) (u : Instance) (cs : List Connection) (f : Fault) → In m s.modules → In u (instances m) → IsOf s u of → u.overrides ≡ Some cs → IsConnectionFault (overridable of) cs f → IsHierarchyFault s f
  -- a connection to a port
  connection : (m of : Module) (u : Instance) (n : NamedInstance) (f : Fault) → In m s.modules → In u (instances m) → IsOf s u of → In n u.instances → IsConnectionFault (ports of) n.connections f → IsHierarchyFault s f

-- ---- the same as a list

-- the faults of the lists of connections of an instance of a module
abbrev pub faults_of : Instance → Module → List Fault
faults_of u m =
    option_map_or (connection_faults (names_have (overridable m)) (length (overridable m))) u.overrides []
    ++ flat_map (λ n. connection_faults (names_have (ports m)) (length (ports m)) n.connections) u.instances

-- the faults of an instance of the module of this number, if there is one
abbrev pub faults_by : Source → Instance → Option ℕ → List Fault
faults_by s u None = at u.place 5 ∷ []
faults_by s u (Some j) = option_map_or (faults_of u) (slice_get s.modules j) []

-- the faults of an instance
abbrev pub instance_faults : Source → Instance → List Fault
instance_faults s u = faults_by s u (module_number s u.definition.name)

-- the fault of a module that is called as one before it
abbrev pub repeated_fault : List Module → Module → List Fault
repeated_fault before m = fault_if (list_any (λ b. bytes_eq m.name.name b.name.name) before) m.name.place 5

-- the number is this one
abbrev pub is_number : Option ℕ → ℕ → Bool
is_number None i = false
is_number (Some k) i = nat_eq k i

-- the fault of a top that isn't the first, or whose ports aren't one input: its number is how many stand before it
abbrev pub top_fault : (ℕ → Bool) → Option ℕ → List Module → Module → List Fault
top_fault top first before m = fault_if (top (length before) && (not (is_number first (length before)) || not (has_one_input m))) m.name.place 6

-- the fault of the first module, where there is no top
abbrev pub no_top_faults : Option ℕ → List Module → List Fault
no_top_faults first [] = []
no_top_faults first (m ∷ ms) = fault_if (not (is_some first)) m.name.place 6

-- the faults of tops, by a test of which are, and by the number of the first
abbrev pub top_faults : (ℕ → Bool) → Option ℕ → List Module → List Fault
top_faults top first ms = each_after (top_fault top first) [] ms ++ no_top_faults first ms

-- the fault of a module that contains itself: its number is how many stand before it
abbrev pub itself_fault : List (List ℕ) → List Module → Module → List Fault
itself_fault graph before m = fault_if (is_cyclic graph (length before)) m.name.place 5

-- the faults of modules that contain themselves
abbrev pub itself_faults : List (List ℕ) → List Module → List Fault
itself_faults graph ms = each_after (itself_fault graph) [] ms

-- the faults of tops and of modules that contain themselves
abbrev pub graph_faults : List (List ℕ) → List Module → List Fault
graph_faults graph ms = top_faults (is_top graph) (first_top graph) ms ++ itself_faults graph ms

-- the faults of instances
abbrev pub given_faults : Source → List Fault
given_faults s = flat_map (instance_faults s) (all_instances s)

-- the faults of the modules of a source, in no special order
abbrev pub hierarchy_faults : Source → List Fault
hierarchy_faults s = each_after repeated_fault [] s.modules ++ (given_faults s ++ graph_faults (graph_of s) s.modules)
