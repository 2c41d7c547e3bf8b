-- What kind of signal each name is (IEEE 1364-2005, clauses 4.2 and 9.6).
use Rattle.std.specs.Prelude.{ℕ, Bool, true, false, not, ◌&&◌, ◌||◌, List, [], flat_map, Option, Some, is_some, if◌then◌else◌}
use Rattle.std.specs.List.{list_any}
use Rattle.std.specs.Option.{option_map_or}
use Rattle.std.specs.Str.{bytes_eq}
use Rattle.vl_tree.specs.declared.source_tree.Direction.{Direction}
use Rattle.vl_tree.specs.declared.source_tree.Direction.TheVariants.{Input}
use Rattle.vl_tree.specs.declared.source_tree.Trigger.{Trigger}
use Rattle.vl_tree.specs.declared.source_tree.Trigger.TheVariants.{Events}
use Rattle.vl_design.specs.declared.design.SigKind.{SigKind}
use Rattle.vl_design.specs.declared.design.SigKind.TheVariants.{Net, Var, Comb, Loop, Mem, Clock}
use Rattle.vl_flat.specs.Surface.{Ex}
use Rattle.vl_flat.specs.Items.{Declared, Setting, Function, NamedUnit, Item, Parameters, Signals, Assigns, Initial, Always, Functions, Instantiates, Module}
use Rattle.vl_flat.specs.Uses.{uses, left_uses, controls, strays, writes}

-- ---- the declarations of a name

abbrev pub signals_in : Item → List Declared
signals_in (Signals ds) = ds
signals_in item = []

-- the declarations of signals in a module
abbrev pub signals_of : Module → List Declared
signals_of m = flat_map signals_in m.items

-- a test of one of the declarations of a name: of a port there may be two
abbrev pub declared_as : (Declared → Bool) → Module → List ℕ → Bool
declared_as test m t = list_any (λ d. bytes_eq t d.name.name && test d) (signals_of m)

abbrev pub gives_input : Option Direction → Bool
gives_input (Some Input) = true
gives_input direction = false

-- the name is an input of the module
abbrev pub is_input : Module → List ℕ → Bool
is_input = declared_as (λ d. gives_input d.direction)

-- ---- what items do with a name

-- the function declares the name itself
abbrev pub declares : List ℕ → Function → Bool
declares t a = list_any (λ l. bytes_eq t l.name.name) a.locals

abbrev pub optional_uses : List ℕ → Option Ex → Bool
optional_uses t e = option_map_or (uses t) e false

abbrev pub unit_uses : List ℕ → NamedUnit → Bool
unit_uses t u = list_any (λ q. optional_uses t q.value) u.connections

abbrev pub setting_uses : List ℕ → Setting → Bool
setting_uses t a = left_uses t a.target || uses t a.value

abbrev pub trigger_uses : List ℕ → Trigger → Bool
trigger_uses t (Events es) = list_any (λ e. bytes_eq t e.name.name) es
trigger_uses t trigger = false

-- the item names t outside each `for` that t controls; ranges, parameters and overrides name no variable
abbrev pub item_strays : List ℕ → Item → Bool
item_strays t (Parameters type ps) = false
item_strays t (Signals ds) = list_any (λ d. optional_uses t d.value) ds
item_strays t (Assigns as') = list_any (setting_uses t) as'
item_strays t (Initial at a) = strays t a
item_strays t (Always at trigger a) = trigger_uses t trigger || strays t a
item_strays t (Functions f) = not (declares t f) && strays t f.body
item_strays t (Instantiates us) = list_any (unit_uses t) us.units

abbrev pub item_controls : List ℕ → Item → Bool
item_controls t (Initial at a) = controls t a
item_controls t (Always at trigger a) = controls t a
item_controls t (Functions f) = not (declares t f) && controls t f.body
item_controls t item = false

-- the trigger has an edge
abbrev pub has_edge : Trigger → Bool
has_edge (Events es) = list_any (λ e. is_some e.edge) es
has_edge trigger = false

-- the item is a combinational process that writes t
abbrev pub item_writes : List ℕ → Item → Bool
item_writes t (Always at trigger a) = not (has_edge trigger) && writes t a
item_writes t item = false

-- ---- the kind of a signal

-- a loop variable (own) has no value of its own, controls a `for`, and is named in such loops alone; an output that is connected
-- is named there too
abbrev pub is_loop : Module → Bool → List ℕ → Bool
is_loop m wired t =
    not wired
    && (not (declared_as (λ d. is_some d.value) m t)
    && (list_any (item_controls t) m.items && not (list_any (item_strays t) m.items)))

abbrev pub variable_kind : Module → Bool → List ℕ → SigKind
variable_kind m wired t = if is_loop m wired t then Loop else if list_any (item_writes t) m.items then Comb else Var

-- the kind of a name of a module, of which is told whether it is a clock, and an output that is connected
abbrev pub kind_of : Module → Bool → Bool → List ℕ → SigKind
kind_of m clock wired t =
    if clock then Clock
    else if declared_as (λ d. is_some d.words) m t then Mem
    else if declared_as (λ d. d.variable) m t then variable_kind m wired t
    else Net
