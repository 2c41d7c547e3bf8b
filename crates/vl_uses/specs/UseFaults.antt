-- The faults of uses: refused constructs 1, 2, 4, 8 and 9 (IEEE 1364-2005, clauses 3.5, 4, 5.2, 10.4.3, 12.7 and 17).
use Rattle.std.specs.Prelude.{ℕ, Bool, true, false, not, ◌&&◌, ◌||◌, ◌==◌, nat_lt, List, [], ◌∷◌, ◌++◌, flat_map, Option, Some, None, is_some, IsTrue}
use Rattle.vl_tree.specs.vl_base.specs.declared.place.Place.{Place}
use Rattle.vl_tree.specs.declared.tree.Name.{out-Name}
use Rattle.vl_tree.specs.declared.tree.Select.{Select, out-Select}
use Rattle.vl_tree.specs.declared.tree.SystemCall.{out-SystemCall}
use Rattle.vl_tree.specs.declared.source_tree.Source.{Source}
use Rattle.vl_tree.specs.declared.source_tree.Module.{Module}
use Rattle.vl_tree.specs.declared.source_tree.Function.{Function}
use Rattle.vl_scope.specs.declared.kind.Class.{Class}
use Rattle.vl_scope.specs.declared.kind.Class.TheVariants as c
use Rattle.vl_scope.specs.declared.kind.Kind.{Kind}
use Rattle.vl_scope.specs.declared.fault.Fault.{Fault}
use Rattle.vl_scope.specs.Faults.{at, In, fault_if}
use Rattle.vl_scope.specs.Declarations.{Declared, declarations, function_declarations, kind_within, called_within, is_parameter}
use Rattle.vl_uses.specs.declared.setting.Side.{Side}
use Rattle.vl_uses.specs.declared.setting.Side.TheVariants.{Continuous, Procedural}
use Rattle.vl_uses.specs.Nodes.{Part, number, value, target, call, group, system, event, Node, Site, sites}
use Rattle.vl_uses.specs.Calls.{has_z, is_allowed}

-- ---- what names mean

-- what a name means where it stands, and what it means where it is called
pub record Meanings : Type 0 where
  pub read : List ℕ → Option Kind
  pub called : List ℕ → Option Kind

-- the declarations of the function in which a part stands, if it does in one
abbrev pub inner_declarations : Option Function → List Declared
inner_declarations None = []
inner_declarations (Some a) = function_declarations a

-- what names mean by the declarations of a module and of a function in it
abbrev pub meanings : List Declared → List Declared → Meanings
meanings outer inner = record { read = kind_within outer inner; called = called_within outer inner }

-- ---- the rules

-- where a part stands: its first token
abbrev pub place_of : Part → Place
place_of (number at a) = at
place_of (value a) = (out-Name a).identifier.place
place_of (target side a) = (out-Name a).identifier.place
place_of (call name n) = name.place
place_of (group at) = at
place_of (system usage a) = (out-SystemCall a).place
place_of (event name) = name.place

-- construct 1: a number with a z digit
abbrev pub has_z_digit : Part → Bool
has_z_digit (number at a) = has_z a
has_z_digit _ = false

-- a parameter that isn't declared yet, where so many are
abbrev pub is_later : ℕ → Class → Bool
is_later n (c.Parameter i) = not (nat_lt i n)
is_later n _ = false

-- a name that isn't declared, or isn't yet
abbrev pub is_unknown : ℕ → Option Kind → Bool
is_unknown n None = true
is_unknown n (Some kind) = is_later n kind.class

-- construct 2: a name that isn't declared
abbrev pub is_undeclared : Meanings → ℕ → Part → Bool
is_undeclared m n (value a) = is_unknown n (m.read (out-Name a).identifier.name)
is_undeclared m n (target side a) = is_unknown n (m.read (out-Name a).identifier.name)
is_undeclared m n (event name) = is_unknown n (m.read name.name)
is_undeclared m n (call name count) = is_unknown n (m.called name.name)
is_undeclared m n _ = false

-- the selects that a value may have: none, or one where it is a vector (clause 5.2.1)
abbrev pub selects_bits : Bool → List Select → Bool
selects_bits vector [] = true
selects_bits vector (a ∷ []) = vector
selects_bits vector (a ∷ b ∷ others) = false

-- the select is one index
abbrev pub is_index : Select → Bool
is_index a = not (is_some (out-Select a).second)

-- the selects that a memory must have: the index of a word, and then those of a value (clause 5.2.2)
abbrev pub selects_word : Bool → List Select → Bool
selects_word vector [] = false
selects_word vector (a ∷ others) = is_index a && selects_bits vector others

-- what has this class may be read with such selects
abbrev pub is_readable : Class → Bool → List Select → Bool
is_readable c.Memory vector selects = selects_word vector selects
is_readable (c.Function n) vector selects = false
is_readable c.Instance vector selects = false
is_readable _ vector selects = selects_bits vector selects

-- what has this class may stand on such a left side with such selects: nets (clause 6.1), or variables and words of
-- memories (clause 9.2)
abbrev pub is_assignable : Side → Class → Bool → List Select → Bool
is_assignable Continuous c.Port vector selects = selects_bits vector selects
is_assignable Continuous c.Net vector selects = selects_bits vector selects
is_assignable Continuous _ vector selects = false
is_assignable Procedural c.Variable vector selects = selects_bits vector selects
is_assignable Procedural c.Memory vector selects = selects_word vector selects
is_assignable Procedural _ vector selects = false

-- what has this class may stand in a trigger (clause 9.7.2)
abbrev pub is_watchable : Class → Bool
is_watchable c.Port = true
is_watchable c.Net = true
is_watchable c.Variable = true
is_watchable _ = false

-- a function of so many inputs (clause 10.4.3)
abbrev pub is_callable : ℕ → Class → Bool
is_callable n (c.Function inputs) = inputs == n
is_callable n _ = false

-- it means something that isn't so
abbrev pub means_other : (Kind → Bool) → Option Kind → Bool
means_other is_so None = false
means_other is_so (Some kind) = not (is_so kind)

-- construct 4: a name that is used as what it isn't
abbrev pub is_misused : Meanings → Part → Bool
is_misused m (value a) = means_other (λ kind. is_readable kind.class kind.vector (out-Name a).selects) (m.read (out-Name a).identifier.name)
is_misused m (target side a) = means_other (λ kind. is_assignable side kind.class kind.vector (out-Name a).selects) (m.read (out-Name a).identifier.name)
is_misused m (event name) = means_other (λ kind. is_watchable kind.class) (m.read name.name)
is_misused m (call name n) = means_other (λ kind. is_callable n kind.class) (m.called name.name)
is_misused m _ = false

-- a name has selects
abbrev pub is_selected : List Select → Bool
is_selected [] = false
is_selected (a ∷ others) = true

-- a name isn't constant: it has selects, or means something that is no parameter
abbrev pub is_varying : Option Kind → List Select → Bool
is_varying kind selects = is_selected selects || means_other (λ kind. is_parameter kind.class) kind

-- what isn't constant: neither a number nor a parameter (clause 5 and annex A.8.3, constant_expression)
abbrev pub varies : Meanings → Part → Bool
varies m (value a) = is_varying (m.read (out-Name a).identifier.name) (out-Name a).selects
varies m (call name n) = true
varies m (group at) = true
varies m (system usage a) = true
varies m _ = false

-- construct 9: a call of a system task or function that isn't there, or not so
abbrev pub is_refused : Meanings → Bool → Part → Bool
is_refused m timed (system usage a) = not (is_allowed m.read timed usage (out-SystemCall a).name (out-SystemCall a).arguments)
is_refused m timed _ = false

-- what names mean at a part of a module
abbrev pub meanings_at : Module → Site → Meanings
meanings_at m a = meanings (declarations m) (inner_declarations a.function)

-- the faults of uses, each at its place and with the number of its construct
pub data IsUseFault (s : Source) : Fault → Type 0 where
  -- a number with a z digit, where it isn't the whole label of a `casez`
  z_digit : (m : Module) (a : Site) → In m s.modules → In a (sites m)
      → IsTrue (has_z_digit a.node.part) → IsUseFault s (at (place_of a.node.part) 1)
  -- a name that isn't declared where it stands
  undeclared : (m : Module) (a : Site) → In m s.modules → In a (sites m)
      → IsTrue (is_undeclared (meanings_at m a) a.node.setting.parameters a.node.part) → IsUseFault s (at (place_of a.node.part) 2)
  -- a name that is used as what it isn't
  misused : (m : Module) (a : Site) → In m s.modules → In a (sites m)
      → IsTrue (is_misused (meanings_at m a) a.node.part) → IsUseFault s (at (place_of a.node.part) 4)
  -- what isn't constant, in a place for a constant
  varying : (m : Module) (a : Site) → In m s.modules → In a (sites m) → IsTrue a.node.setting.constant
      → IsTrue (varies (meanings_at m a) a.node.part) → IsUseFault s (at (place_of a.node.part) 8)
  -- a call of a system task or function that isn't there, has other arguments or stands elsewhere
  refused : (m : Module) (a : Site) → In m s.modules → In a (sites m)
      → IsTrue (is_refused (meanings_at m a) a.node.setting.timed a.node.part) → IsUseFault s (at (place_of a.node.part) 9)

-- ---- the faults as a list

-- the faults at a part
unfoldable pub node_faults : Meanings → Node → List Fault
node_faults m a =
    fault_if (has_z_digit a.part) (place_of a.part) 1
    ++ fault_if (is_undeclared m a.setting.parameters a.part) (place_of a.part) 2
    ++ fault_if (is_misused m a.part) (place_of a.part) 4
    ++ fault_if (a.setting.constant && varies m a.part) (place_of a.part) 8
    ++ fault_if (is_refused m a.setting.timed a.part) (place_of a.part) 9

-- the faults at a part of a module
abbrev pub site_faults : List Declared → Site → List Fault
site_faults outer a = node_faults (meanings outer (inner_declarations a.function)) a.node

-- the faults of uses in a module
unfoldable pub module_faults : Module → List Fault
module_faults m = flat_map (site_faults (declarations m)) (sites m)

-- the faults of uses, in no special order
abbrev pub use_faults : Source → List Fault
use_faults s = flat_map module_faults s.modules
