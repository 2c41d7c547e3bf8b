-- What the program's own values stand for.
use Rattle.std.specs.Prelude.{◌≡◌, ℕ, Bool, false, ◌||◌, is_some, if◌then◌else◌, List, [], ◌∷◌, ◌++◌, length, map, flat_map, slice_get, Option, Some, None}
use Rattle.std.specs.List.{position}
use Rattle.std.specs.Option.{option_or, option_map_or}
use Rattle.std.specs.Borrow.{Bor}
use Rattle.std.specs.Str.{bytes_eq}
use Rattle.indexmap.specs.IndexMap.{IndexMap, get_by}
use Rattle.vl_scope.specs.vl_tree.specs.declared.tree.Identifier.{Identifier}
use Rattle.vl_scope.specs.vl_tree.specs.declared.source_tree.Module.{Module}
use Rattle.vl_scope.specs.vl_tree.specs.declared.source_tree.Instance.{Instance}
use Rattle.vl_scope.specs.vl_tree.specs.declared.source_tree.Connection.{Connection}
use Rattle.vl_scope.specs.declared.fault.Fault.{Fault}
use Rattle.vl_scope.specs.DeclarationFaults.{names_have}
use Rattle.vl_scope.specs.Faults.{at}
use Rattle.vl_names.specs.declared.interface.Listed.{Listed}
use Rattle.vl_names.specs.declared.interface.Interface.{Interface}
use Rattle.vl_scope.specs.vl_tree.specs.Hierarchy.{ports, overridable}
use Rattle.vl_names.specs.Connections.{connection_faults}

-- what references point to
abbrev pub nows : {X : Type 0} → List (Bor X) → List X
nows refs = map (λ r. r.now) refs

-- the names so far, and one more
unfoldable pub with_name : (List ℕ → Bool) → List ℕ → List ℕ → Bool
with_name before n t = before t || bytes_eq t n

-- no name
abbrev pub none : List ℕ → Bool
none t = false

-- what a map has at a spelling
unfoldable pub look : {X S : Type 0} → IndexMap (Bor (List ℕ)) X S → List ℕ → Option X
look m t = get_by (λ k. bytes_eq t k.now) m

-- whether a map has a spelling
unfoldable pub has : {X S : Type 0} → IndexMap (Bor (List ℕ)) X S → List ℕ → Bool
has m t = is_some (look m t)

-- a program's list stands for these names
pub record Lists (l : Listed) (names : List Identifier) : Type 0 where
  pub count : l.count ≡ length names
  pub known : has l.known ≡ names_have names

-- what an instance of a module may be given
pub record Describes (i : Interface) (m : Module) : Type 0 where
  pub ports : Lists i.ports (ports m)
  pub parameters : Lists i.parameters (overridable m)

-- each describes the module of its number
abbrev pub DescribeAll : List Interface → List Module → Type 0
DescribeAll [] [] = Unit {0}
DescribeAll [] (m ∷ ms) = ⊥
DescribeAll (i ∷ is) [] = ⊥
DescribeAll (i ∷ is) (m ∷ ms) = Describes i m × DescribeAll is ms

-- the faults of a list of connections to listed names
abbrev pub faults_to : Listed → List Connection → List Fault
faults_to l cs = connection_faults (has l.known) l.count cs

-- the faults of the lists of connections of an instance
abbrev pub faults_at : Instance → Interface → List Fault
faults_at u i = option_map_or (faults_to i.parameters) u.overrides [] ++ flat_map (λ n. faults_to i.ports n.connections) u.instances

-- the faults of an instance of the module of this number, if there is one
abbrev pub faults_by_number : List Interface → Instance → Option ℕ → List Fault
faults_by_number is u None = at u.place 5 ∷ []
faults_by_number is u (Some j) = option_map_or (faults_at u) (slice_get is j) []

-- the faults of an instance, by the numbers of the modules and by what each may be given
abbrev pub faults_in : (List ℕ → Option ℕ) → List Interface → Instance → List Fault
faults_in number is u = faults_by_number is u (number u.definition.name)

-- the number of the first of these modules that is so called
abbrev pub number_in : List Module → List ℕ → Option ℕ
number_in ms t = position (λ m. bytes_eq t m.name.name) ms

-- the numbers so far, and that of one more
unfoldable pub with_number : (List ℕ → Option ℕ) → List ℕ → ℕ → List ℕ → Option ℕ
with_number before n k t = option_or (before t) (if bytes_eq t n then Some k else None)
