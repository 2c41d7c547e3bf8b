-- What the names of an instance stand for: parameters, signals and functions with their numbers (IEEE 1364-2005, clause 12).
use Rattle.std.specs.Prelude.{ℕ, zero, suc, ◌+◌, ◌*◌, Bool, List, [], ◌∷◌, fold, find, length, Option, is_some, if◌then◌else◌}
use Rattle.std.specs.List.{list_any}
use Rattle.std.specs.Option.{option_map_or}
use Rattle.std.specs.Str.{bytes_eq}
use Rattle.vl_design.specs.declared.design.SigKind.{SigKind}
use Rattle.vl_flat.specs.declared.binding.Binding.TheVariants as b
use Rattle.vl_flat.specs.declared.binding.Shape.{Shape}
use Rattle.vl_design.specs.Placed.{Exp}
use Rattle.vl_flat.specs.Scopes.{Env, none, bind}
use Rattle.vl_flat.specs.Items.{DataType, Declared, Parameter, Item, Parameters, Signals, Functions, Instantiates, Module}
use Rattle.vl_flat.specs.Kinds.{kind_of, signals_of}
use Rattle.vl_flat.specs.Ranges.{type_range, type_form, is_signed, has_range, optional_bounds}
use Rattle.vl_flat.specs.Parameters.{converted, value_of}

-- so many signals and functions
pub record Counts : Type 0 where
  pub signals : ℕ
  pub functions : ℕ

abbrev pub no_more : Counts
no_more = record { signals = 0; functions = 0 }

abbrev pub plus : Counts → Counts → Counts
plus a b = record { signals = a.signals + b.signals; functions = a.functions + b.functions }

abbrev pub times : ℕ → Counts → Counts
times n a = record { signals = n * a.signals; functions = n * a.functions }

-- ---- how many signals and functions an instance of a module has, with what is in it

-- declarations of names that aren't known before: a port that is declared twice is one signal
abbrev pub new_ones : List (List ℕ) → List Declared → List Declared
new_ones known [] = []
new_ones known (d ∷ ds) = if list_any (bytes_eq d.name.name) known then new_ones known ds else d ∷ new_ones (d.name.name ∷ known) ds

-- what an item adds beside signals of its own, where sizes tells it of modules
abbrev pub item_counts : (List ℕ → Counts) → Item → Counts
item_counts sizes (Functions f) = record { signals = 0; functions = 1 }
item_counts sizes (Instantiates us) = times (length us.units) (sizes us.definition)
item_counts sizes item = no_more

abbrev pub module_counts : (List ℕ → Counts) → Module → Counts
module_counts sizes m =
    fold (λ c item. plus c (item_counts sizes item)) (record { signals = length (new_ones [] (signals_of m)); functions = 0 }) m.items

-- the first module of this name
abbrev pub module_named : List Module → List ℕ → Option Module
module_named ms t = find (λ m. bytes_eq t m.name.name) ms

-- of the module of this name, with instances that stand so deep in one another
unfoldable pub size : ℕ → List Module → List ℕ → Counts
size zero ms t = no_more
size (suc n) ms t = option_map_or (module_counts (size n ms)) (module_named ms t) no_more

-- ---- what an instance is given

pub record Given : Type 0 where
  -- its path
  pub path : List ℕ
  -- the numbers of its first signal and its first function
  pub base : Counts
  -- the constants that stand in place of its parameters' defaults
  pub overrides : List ℕ → Option Exp
  -- which of its inputs are clocks, and which of its outputs are connected
  pub clocks : List ℕ → Bool
  pub wired : List ℕ → Bool

-- ---- the names of an instance

-- the names so far, and the numbers of the next signal and function
pub record Known : Type 0 where
  pub env : Env
  pub next : Counts

abbrev pub shape : Env → SigKind → Declared → Shape
shape env kind d = record {
  kind = kind;
  signed = is_signed d.type;
  ranged = has_range d.type;
  left = (type_range env d.type).0;
  right = (type_range env d.type).1;
  first = (optional_bounds env d.words).0;
  last = (optional_bounds env d.words).1;
}

-- a name that is declared twice has the number, the sign and the range of its first declaration
abbrev pub with_signal : Given → Module → Known → Declared → Known
with_signal g m k d =
    let t = d.name.name in
    if is_some (k.env t) then k
    else record { env = bind k.env t (b.Signal k.next.signals (shape k.env (kind_of m (g.clocks t) (g.wired t) t) d)); next = plus k.next (record { signals = 1; functions = 0 }) }

abbrev pub with_parameter : Given → DataType → Known → Parameter → Known
with_parameter g type k a =
    record k { env = bind k.env a.name.name (b.Constant (converted k.env type (value_of k.env (g.overrides a.name.name) a))) }

abbrev pub with_item : (List ℕ → Counts) → Given → Module → Known → Item → Known
with_item sizes g m k (Parameters type ps) = fold (with_parameter g type) k ps
with_item sizes g m k (Signals ds) = fold (with_signal g m) k ds
with_item sizes g m k (Functions f) =
    record { env = bind k.env f.name.name (b.Function k.next.functions (type_form k.env f.type)); next = plus k.next (item_counts sizes (Functions f)) }
with_item sizes g m k item = record k { next = plus k.next (item_counts sizes item) }

-- the names of an instance, where sizes tells how many signals and functions the modules in it have
abbrev pub environment : (List ℕ → Counts) → Given → Module → Env
environment sizes g m = (fold (with_item sizes g m) (record { env = none; next = g.base }) m.items).env
