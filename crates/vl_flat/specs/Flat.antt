-- The flat design of a source, part by part in its order (IEEE 1364-2005, clause 12): an instance stands for its input
-- connections in port order, the items of its module, and its output connections in port order.
use Rattle.std.specs.Prelude.{ℕ, zero, suc, nat_lt, Bool, false, not, ◌&&◌, List, [], ◌∷◌, ◌++◌, length, flat_map, slice_get, Option, None, if◌then◌else◌}
use Rattle.std.specs.Option.{option_map_or, option_and_then}
use Rattle.vl_design.specs.vl_base.specs.declared.place.Place.{Place}
use Rattle.vl_tree.specs.declared.source_tree.Source.{Source}
use Rattle.vl_tree.specs.Hierarchy.{graph_of, first_top}
use Rattle.vl_design.specs.declared.design.Signal.{Signal}
use Rattle.vl_design.specs.declared.stop.Stop.{Stop}
use Rattle.vl_design.specs.Placed as p
use Rattle.vl_design.specs.Stops.{limit_if}
use Rattle.vl_flat.specs.Scopes.{Env}
use Rattle.vl_flat.specs.Items.{NamedUnit, Instances, Item, Instantiates, Module}
use Rattle.vl_flat.specs.Declarations.{modules}
use Rattle.vl_flat.specs.Kinds.{signals_in, is_input}
use Rattle.vl_flat.specs.Environments.{Counts, no_more, plus, item_counts, module_counts, module_named, size, Given, environment}
use Rattle.vl_flat.specs.Processes.{Here, signals, processes, functions, item_faults}
use Rattle.vl_flat.specs.Connections.{given, override_faults, port_connection, place_in, expression_of, is_clock_binding, input_process, input_faults, output_process, output_faults}

-- what one item, or one connection, of the flat design stands for; its faults; and the place of an instance that begins here
pub record Part : Type 0 where
  pub signals : List Signal
  pub funcs : List p.Func
  pub processes : List p.Process
  pub faults : List Stop
  pub begins : List Place

-- a connection, or nothing, with its faults
abbrev pub connection : List p.Process → List Stop → Part
connection processes faults = record { signals = []; funcs = []; processes = processes; faults = faults; begins = [] }

-- the path of an instance or a signal has more than 255 bytes
abbrev pub is_long_path : List ℕ → Bool
is_long_path path = nat_lt 255 (length path)

-- where an instance begins: its path and its overrides are judged
abbrev pub beginning : Env → Given → Instances → Part
beginning above g a = record {
  signals = [];
  funcs = [];
  processes = [];
  faults = limit_if (is_long_path g.path) a.place 11 ++ override_faults above a;
  begins = a.place ∷ [];
}

-- an input's connection; a clock, and one that isn't connected, stand for nothing
abbrev pub input_part : Here → Env → Module → NamedUnit → List ℕ → List Part
input_part above env m u t =
    let q = port_connection m u t in
    if is_input m t && not (is_clock_binding (env t)) then
    option_map_or (λ e. connection (input_process above env (place_in u q) t e ∷ []) (input_faults above.env e) ∷ []) (expression_of q) []
    else []

-- an output's; one that isn't connected stands for nothing
abbrev pub output_part : Here → Env → Module → NamedUnit → List ℕ → List Part
output_part above env m u t =
    let q = port_connection m u t in
    if is_input m t then []
    else option_map_or (λ e. connection (output_process above env (place_in u q) t e ∷ []) (output_faults above.env (place_in u q) e) ∷ []) (expression_of q) []

-- an item that is no instance, whose first signal has the number next
abbrev pub item_part : Here → Given → ℕ → Item → Part
item_part here g next item = record {
  signals = signals here next (signals_in item);
  funcs = functions here item;
  processes = processes here item;
  faults = item_faults here g.overrides item;
  begins = [];
}

-- ---- instances; inner gives the parts of one instance

abbrev pub Inner : Type 0
Inner = Here → Counts → Instances → NamedUnit → Module → List Part

-- the instances of an item, all of one module, where each has so many signals and functions
abbrev pub instances : Inner → Here → Counts → Instances → Module → Counts → List NamedUnit → List Part
instances inner here base us m counts [] = []
instances inner here base us m counts (u ∷ others) = inner here base us u m ++ instances inner here (plus base counts) us m counts others

abbrev pub item_parts : Inner → (List ℕ → Counts) → List Module → Here → Given → Counts → Item → List Part
item_parts inner sizes ms here g next (Instantiates us) =
    option_map_or (λ m. instances inner here next us m (sizes us.definition) us.units) (module_named ms us.definition) []
item_parts inner sizes ms here g next item = item_part here g next.signals item ∷ []

-- the numbers of the next signal and function behind an item
abbrev pub behind_item : (List ℕ → Counts) → Here → Counts → Item → Counts
behind_item sizes here next item =
    plus (plus next (record { signals = length (signals here next.signals (signals_in item)); functions = 0 })) (item_counts sizes item)

abbrev pub items_parts : Inner → (List ℕ → Counts) → List Module → Here → Given → Counts → List Item → List Part
items_parts inner sizes ms here g next [] = []
items_parts inner sizes ms here g next (item ∷ items) =
    item_parts inner sizes ms here g next item ++ items_parts inner sizes ms here g (behind_item sizes here next item) items

-- the items of an instance with these names
abbrev pub body : Inner → (List ℕ → Counts) → List Module → ℕ → Env → Given → Module → List Part
body inner sizes ms behind env g m =
    items_parts inner sizes ms (record { env = env; path = g.path; behind = behind }) g g.base m.items

-- an instance, with what stands so deep in it
unfoldable pub instance : ℕ → List Module → Inner
instance zero ms above base us u m = []
instance (suc n) ms above base us u m =
    let g = given above base us u m in
    let env = environment (size n ms) g m in
    beginning above.env g us
    ∷ (flat_map (λ t. input_part above env m u t.name) m.ports
    ++ (body (instance n ms) (size n ms) ms above.behind env g m
    ++ flat_map (λ t. output_part above env m u t.name) m.ports))

-- ---- the design

-- a path of at most 255 bytes has no more names than this
abbrev pub deepest : ℕ
deepest = 128

-- the top module instantiates all: its one input is the clock
abbrev pub top_given : Module → Given
top_given m = record { path = m.name.name; base = no_more; overrides = λ t. None; clocks = is_input m; wired = λ t. false }

-- how many signals and functions the design from this module has
abbrev pub whole : List Module → Module → Counts
whole ms m = module_counts (size deepest ms) m

-- the parts of the flat design, in order
abbrev pub parts_from : List Module → Module → List Part
parts_from ms m =
    let sizes = size deepest ms in
    let g = top_given m in
    body (instance deepest ms) sizes ms (whole ms m).signals (environment sizes g m) g m

abbrev pub design_of : Module → List Part → p.Design
design_of m parts = record {
  top = m.name.name;
  signals = flat_map (λ a. a.signals) parts;
  funcs = flat_map (λ a. a.funcs) parts;
  processes = flat_map (λ a. a.processes) parts;
}

-- ---- the top module (clause 12.1.1)

-- the first module that none instantiates
abbrev pub top_of : Source → Option Module
top_of s = option_and_then (slice_get (modules s)) (first_top (graph_of s))
