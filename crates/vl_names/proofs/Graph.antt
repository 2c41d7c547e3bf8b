-- The graph of the modules, and what the program's tables say.
use Rattle.std.proofs.Common.{◌≡◌, ℕ, zero, suc, ◌<◌, ◌↔◌, inl, inr, Bool, true, List, [], ◌∷◌, ◌++◌, length, map, flat_map, get_or, slice_get, Option, Some, None, refl, sym, ap, ◌∙◌, subst, arith}
use Rattle.std.specs.Str.{bytes_eq}
use Rattle.std.specs.List.{position}
use Rattle.std.proofs.lemmas.List.{length-map}
use Rattle.std.specs.Option.{option_to_list, option_map_or}
use Rattle.std.proofs.lemmas.List.Quantifiers.{position-Some}
use Rattle.vl_scope.specs.vl_tree.specs.declared.source_tree.Source.{Source}
use Rattle.vl_scope.specs.vl_tree.specs.declared.source_tree.Module.{Module}
use Rattle.vl_scope.specs.vl_tree.specs.declared.source_tree.Instance.{Instance}
use Rattle.vl_scope.specs.vl_tree.specs.declared.source_tree.Connection.{Connection}
use Rattle.vl_scope.specs.vl_tree.specs.declared.tree.Identifier.{Identifier}
use Rattle.vl_scope.specs.declared.fault.Fault.{Fault}
use Rattle.vl_scope.specs.DeclarationFaults.{names_have}
use Rattle.vl_scope.specs.Faults.{In}
use Rattle.vl_scope.proofs.Members.{In-flat_map, In-flat_map_cases}
use Rattle.vl_names.specs.declared.interface.Listed.{Listed}
use Rattle.vl_names.specs.declared.interface.Interface.{Interface}
use Rattle.vl_scope.specs.vl_tree.specs.Hierarchy.{ports, overridable, instances, module_number, steps_of, graph_of}
use Rattle.vl_names.specs.Modules.{Instantiates, Leads, along, on}
use Rattle.vl_names.specs.Connections.{connection_faults}
use Rattle.vl_names.specs.HierarchyFaults.{faults_of, faults_by, instance_faults}
use Rattle.vl_names.specs.Seen.{Lists, Describes, DescribeAll, faults_to, faults_at, faults_by_number, faults_in}
use Rattle.vl_names.specs.Walks.{IsStep, IsWithin, is_cyclic}
use Rattle.vl_names.proofs.Bounded.{cyclic-law}

-- ---- the graph

found_within : {X : Type 0} (p : X → Bool) (xs : List X) (j : ℕ) → position p xs ≡ Some j → j < length xs
found_within p [] j h = absurd cc
found_within p (x ∷ xs) j h = (position-Some p (x ∷ xs) j x h).0

pub number-within : (s : Source) (t : List ℕ) (j : ℕ) → module_number s t ≡ Some j → j < length s.modules
number-within s t j h = found_within (λ m. bytes_eq t m.name.name) s.modules j h

In-option : (j : ℕ) (o : Option ℕ) → In j (option_to_list o) → o ≡ Some j
In-option j None h = absurd h
In-option j (Some k) (inl e) = ap Some e
In-option j (Some k) (inr h) = absurd h

-- a step from a leads where a step from the module number a leads
at-map : (f : Module → List ℕ) (ms : List Module) (a b : ℕ) → In b (get_or (map f ms) a []) → (m : Module) × (slice_get ms a ≡ Some m) × In b (f m)
at-map f [] a b h = absurd h
at-map f (m ∷ ms) zero b h = (m, refl, h)
at-map f (m ∷ ms) (suc a) b h = at-map f ms a b h

map-at : (f : Module → List ℕ) (ms : List Module) (a b : ℕ) (m : Module) → slice_get ms a ≡ Some m → In b (f m) → In b (get_or (map f ms) a [])
map-at f [] a b m e h = absurd cc
map-at f (x ∷ ms) zero b m e h = let same : x ≡ m = cc in subst (λ y. In b (f y)) (sym same) h
map-at f (x ∷ ms) (suc a) b m e h = map-at f ms a b m e h

pub step-to : (s : Source) (a b : ℕ) → IsStep (graph_of s) a b → Instantiates s a b
step-to s a b h =
    let m = at-map (steps_of (module_number s)) s.modules a b h in
    let u = In-flat_map_cases (λ u. option_to_list (module_number s u.definition.name)) b (instances m.0) m.2 in
    record { whole = m.0; instance = u.0; at = m.1; among = u.1; means = In-option b (module_number s u.0.definition.name) u.2 }

pub step-from : (s : Source) (a b : ℕ) → Instantiates s a b → IsStep (graph_of s) a b
step-from s a b h = map-at (steps_of (module_number s)) s.modules a b h.whole h.at
    (In-flat_map (λ u. option_to_list (module_number s u.definition.name)) h.instance b (instances h.whole) h.among (subst (λ o. In b (option_to_list o)) (sym h.means) (inl refl)))

pub graph-within : (s : Source) → IsWithin (graph_of s)
graph-within s a b h = let i = step-to s a b h in omega (arith, number-within s i.instance.definition.name b i.means, length-map s.modules (steps_of (module_number s)))

pub leads-map : (E F : ℕ → ℕ → Type 0) → ((a b : ℕ) → E a b → F a b) → {a b : ℕ} → Leads E a b → Leads F a b
leads-map E F into {a} {b} (along step) = along (into a b step)
leads-map E F into {a} {b} (on {b = c} before step) = on (leads-map E F into before) (into c b step)

-- a module contains itself just where its number is on a cycle
pub itself-law : (s : Source) (k : ℕ) → (is_cyclic (graph_of s) k ≡ true) ↔ Leads (Instantiates s) k k
itself-law s k = (λ e. leads-map (IsStep (graph_of s)) (Instantiates s) (step-to s) ((cyclic-law (graph_of s) k).0 e), λ l. (cyclic-law (graph_of s) k).1 (leads-map (Instantiates s) (IsStep (graph_of s)) (step-from s) l))

-- ---- the tables

lists-faults : (l : Listed) (names : List Identifier) → Lists l names → faults_to l ≡ connection_faults (names_have names) (length names)
lists-faults l names d = λ i. connection_faults (d.known i) (d.count i)

describes-faults : (u : Instance) (i : Interface) (m : Module) → Describes i m → faults_at u i ≡ faults_of u m
describes-faults u i m d =
    ap (λ (f : List Connection → List Fault). option_map_or f u.overrides [] ++ flat_map (λ n. faults_to i.ports n.connections) u.instances) (lists-faults i.parameters (overridable m) d.parameters)
    ∙ ap (λ (f : List Connection → List Fault). option_map_or (connection_faults (names_have (overridable m)) (length (overridable m))) u.overrides [] ++ flat_map (λ n. f n.connections) u.instances) (lists-faults i.ports (ports m) d.ports)

described-at : (u : Instance) (is : List Interface) (ms : List Module) → DescribeAll is ms → (j : ℕ) → option_map_or (faults_at u) (slice_get is j) [] ≡ option_map_or (faults_of u) (slice_get ms j) []
described-at u [] [] h j = refl
described-at u [] (m ∷ ms) h j = absurd h
described-at u (i ∷ is) [] h j = absurd h
described-at u (i ∷ is) (m ∷ ms) h zero = describes-faults u i m h.0
described-at u (i ∷ is) (m ∷ ms) h (suc j) = described-at u is ms h.1 j

described-number : (s : Source) (u : Instance) (is : List Interface) → DescribeAll is s.modules → (o : Option ℕ) → faults_by_number is u o ≡ faults_by s u o
described-number s u is h None = refl
described-number s u is h (Some j) = described-at u is s.modules h j

-- the faults by the tables are those of the source
pub described : (s : Source) (is : List Interface) → DescribeAll is s.modules → faults_in (module_number s) is ≡ instance_faults s
described s is h = λ i u. (described-number s u is h (module_number s u.definition.name)) i
