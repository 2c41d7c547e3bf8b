-- The signals and processes that an item of an instance stands for, and its faults (IEEE 1364-2005, clauses 6, 9 and 12).
use Rattle.std.specs.Prelude.{ℕ, ◌+◌, nat_lt, ℤ, Bool, true, false, not, ◌&&◌, ◌==◌, List, [], ◌∷◌, ◌++◌, map, flat_map, Option, Some, None, if◌then◌else◌}
use Rattle.std.specs.Option.{option_map_or}
use Rattle.std.specs.Ordering.{int_eq}
use mathlib.Core.Bool.{beq}
use Rattle.vl_design.specs.vl_base.specs.declared.place.Place.{Place}
use Rattle.vl_tree.specs.declared.tree.Identifier.{Identifier}
use Rattle.vl_tree.specs.declared.source_tree.Edge.{Edge}
use Rattle.vl_tree.specs.declared.source_tree.Edge.TheVariants.{Rising, Falling}
use Rattle.vl_tree.specs.declared.source_tree.Event.{Event as EventTree}
use Rattle.vl_tree.specs.declared.source_tree.Trigger.{Trigger}
use Rattle.vl_tree.specs.declared.source_tree.Trigger.TheVariants as g
use Rattle.vl_design.specs.declared.design.Event.{Event}
use Rattle.vl_design.specs.declared.design.ProcKind.{ProcKind}
use Rattle.vl_design.specs.declared.design.ProcKind.TheVariants.{Init, Rise, Fall, Comb, Assign}
use Rattle.vl_design.specs.declared.design.Signal.{Signal}
use Rattle.vl_design.specs.declared.design.SigKind.{SigKind}
use Rattle.vl_design.specs.declared.design.SigKind.TheVariants.{Clock}
use Rattle.vl_flat.specs.declared.binding.Binding.{Binding}
use Rattle.vl_flat.specs.declared.binding.Binding.TheVariants as b
use Rattle.vl_flat.specs.declared.binding.Shape.{Shape}
use Rattle.vl_design.specs.declared.stop.Stop.{Stop}
use Rattle.vl_flat.specs.Surface.{Ex, left_place}
use Rattle.vl_flat.specs.Items.{Declared, Setting, Item, Parameters, Signals, Assigns, Initial, Always, Functions, Instantiates}
use Rattle.vl_design.specs.Placed as p
use Rattle.vl_design.specs.Stops.{construct_if}
use Rattle.vl_flat.specs.Scopes.{Env, plainly, number_of}
use Rattle.vl_flat.specs.Expressions.{exp}
use Rattle.vl_flat.specs.ExpressionFaults.{faults}
use Rattle.vl_flat.specs.Targets.{target, target_faults}
use Rattle.vl_flat.specs.Statements.{statement, statement_faults}
use Rattle.vl_flat.specs.Kinds.{signals_in}
use Rattle.vl_flat.specs.Ranges.{is_signed, has_range, type_range, bits_in, type_faults, range_faults}
use Rattle.vl_flat.specs.Parameters.{parameter_faults}
use Rattle.vl_flat.specs.Functions.{signal, function, function_faults}

-- where an item stands: the names and the path of its instance, and the number of the design's signals
pub record Here : Type 0 where
  pub env : Env
  pub path : List ℕ
  pub behind : ℕ

-- ---- signals

-- the declaration is the first of its name: the number that comes next is its
abbrev pub is_first : Env → ℕ → Declared → Bool
is_first env next d = number_of (env d.name.name) == next

abbrev pub signal_of : List ℕ → Identifier → Option Binding → List Signal
signal_of path n (Some (b.Signal k s)) = signal path n s ∷ []
signal_of path n b = []

-- the signals of declarations, where the first has the number next
abbrev pub signals : Here → ℕ → List Declared → List Signal
signals here next [] = []
signals here next (d ∷ ds) =
    if is_first here.env next d then signal_of here.path d.name (here.env d.name.name) ++ signals here (next + 1) ds
    else signals here next ds

abbrev pub is_clock : SigKind → Bool
is_clock Clock = true
is_clock kind = false

-- this sign, and these bits, or none, are what the first declaration of a signal says
abbrev pub is_alike : Bool → Bool → ℤ × ℤ → Shape → Bool
is_alike signed ranged r s =
    beq signed s.signed && (beq ranged s.ranged && (int_eq r.0 s.left && int_eq r.1 s.right))

-- a clock has one bit; both declarations of a port have one sign and range, or none has a range
abbrev pub binding_faults : Env → Declared → Option Binding → List Stop
binding_faults env d (Some (b.Signal k s)) =
    let r = type_range env d.type in
    construct_if (is_clock s.kind && nat_lt 1 (bits_in r)) d.name.place 12
    ++ construct_if (not (is_alike (is_signed d.type) (has_range d.type) r s)) d.name.place 12
binding_faults env d b = []

abbrev pub optional_faults : Env → Option Ex → List Stop
optional_faults env e = option_map_or (λ a. faults (plainly env) a) e []

abbrev pub declared_faults : Env → Declared → List Stop
declared_faults env d =
    type_faults env d.type d.name.place
    ++ (range_faults env d.words ++ (binding_faults env d (env d.name.name) ++ optional_faults env d.value))

-- ---- processes

abbrev pub process : Here → Place → ProcKind → List Event → p.Stm → p.Process
process here at kind events body = record { place = at; path = here.path; kind = kind; events = events; body = body }

-- a declared value: of a net it is a continuous assignment, of a variable an initial process
abbrev pub value_kind : Bool → ProcKind
value_kind true = Init
value_kind false = Assign

abbrev pub value_process : Here → Declared → Ex → p.Process
value_process here d e =
    process here d.name.place (value_kind d.variable) []
    (p.Set d.name.place (p.Whole d.name.place (number_of (here.env d.name.name))) (exp (plainly here.env) e))

abbrev pub values : Here → List Declared → List p.Process
values here = flat_map (λ d. option_map_or (λ e. value_process here d e ∷ []) d.value [])

abbrev pub assignment : Here → Setting → p.Process
assignment here a =
    let l = a.target in
    process here (left_place l) Assign [] (p.Set (left_place l) (target (plainly here.env) l) (exp (plainly here.env) a.value))

abbrev pub assignment_faults : Env → Setting → List Stop
assignment_faults env a = target_faults (plainly env) a.target ++ faults (plainly env) a.value

-- ---- triggers (clause 9.7)

abbrev pub edge_of : Option Edge → ℕ
edge_of None = 0
edge_of (Some Rising) = 1
edge_of (Some Falling) = 2

abbrev pub event : Env → EventTree → Event
event env e = record { place = e.place; signal = number_of (env e.name.name); edge = edge_of e.edge }

abbrev pub events : Env → Trigger → List Event
events env (g.Events es) = map (event env) es
events env trigger = []

-- by its first edge
abbrev pub edge_kind : List EventTree → ProcKind
edge_kind [] = Comb
edge_kind (e ∷ es) = elim e.edge [ None ↦ edge_kind es | Some d ↦ elim d [ Rising ↦ Rise | Falling ↦ Fall ] ]

abbrev pub trigger_kind : Trigger → ProcKind
trigger_kind (g.Events es) = edge_kind es
trigger_kind trigger = Comb

-- ---- items

-- the processes of an item, but of instances
abbrev pub processes : Here → Item → List p.Process
processes here (Assigns as') = map (assignment here) as'
processes here (Initial at a) = process here at Init [] (statement (plainly here.env) a) ∷ []
processes here (Always at trigger a) = process here at (trigger_kind trigger) (events here.env trigger) (statement (plainly here.env) a) ∷ []
processes here item = values here (signals_in item)

abbrev pub functions : Here → Item → List p.Func
functions here (Functions f) = function here.behind here.env here.path f ∷ []
functions here item = []

-- the faults of an item, but of instances; given tells what stands in place of parameters' defaults
abbrev pub item_faults : Here → (List ℕ → Option p.Exp) → Item → List Stop
item_faults here given (Parameters type ps) = flat_map (λ a. parameter_faults here.env type (given a.name.name) a) ps
item_faults here given (Signals ds) = flat_map (declared_faults here.env) ds
item_faults here given (Assigns as') = flat_map (assignment_faults here.env) as'
item_faults here given (Initial at a) = statement_faults (plainly here.env) a
item_faults here given (Always at trigger a) = statement_faults (plainly here.env) a
item_faults here given (Functions f) = function_faults here.behind here.env f
item_faults here given (Instantiates us) = []
