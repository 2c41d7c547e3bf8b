-- What the names so far stand for, by the program's tables.
use Rattle.std.specs.Prelude.{ℕ, List, fold, Option, option_map, is_some, if◌then◌else◌}
use Rattle.std.specs.Borrow.{Bor}
use Rattle.indexmap.specs.IndexMap.{IndexMap}
use Rattle.elab_plain.specs.vl_design.specs.declared.design.SigKind.{SigKind}
use Rattle.elab_plain.specs.vl_flat.specs.declared.binding.Binding.TheVariants as b
use Rattle.elab_plain.specs.vl_flat.specs.Items as x
use Rattle.elab_plain.specs.vl_design.specs.Placed.{Exp}
use Rattle.elab_plain.specs.vl_flat.specs.Scopes.{Env, none, bind, plainly}
use Rattle.elab_plain.specs.vl_flat.specs.Expressions.{constant}
use Rattle.elab_plain.specs.vl_flat.specs.Parameters.{converted, value_of}
use Rattle.elab_plain.specs.vl_flat.specs.Ranges.{type_form}
use Rattle.elab_plain.specs.vl_flat.specs.Connections.{expression_of}
use Rattle.elab_plain.specs.vl_flat.specs.Environments as e
use Rattle.elab_constant.specs.declared.scope.Known.{Known}
use Rattle.elab_constant.specs.Seen.{look}
use Rattle.elab_kinds.specs.declared.counts.Counts.{Counts}
use Rattle.elab_kinds.specs.Facts.{Facts, kind_by}
use Rattle.elab_kinds.specs.Sized as s
use Rattle.elab_instance.specs.declared.given.Above.{Above}
use Rattle.elab_instance.specs.declared.given.Surroundings.{Surroundings}
use Rattle.elab_instance.specs.Given.{clocks_by, wired_by}
use Rattle.elab_instance.specs.Tables.{joined}

abbrev pub counts_of : Counts → e.Counts
counts_of = s.counts_of

-- the names so far, and the numbers of the next signal and function
abbrev pub known : {S : Type 0} → IndexMap (Bor (List ℕ)) Known S → Counts → e.Known
known names next = record { env = look names; next = counts_of next }

-- ---- the steps of Environments, each by what it needs

-- the constant that an item gives a parameter
abbrev pub override_in : Surroundings → List ℕ → Option Exp
override_in s t = option_map (constant (plainly (look s.names.now))) (expression_of (joined s.overrides.now t))

abbrev pub with_parameter : (List ℕ → Option Exp) → x.DataType → Env → x.Parameter → Env
with_parameter overrides type env a = bind env a.name.name (b.Constant (converted env type (value_of env (overrides a.name.name) a)))

-- the kind of a name, where so much is known of each name
abbrev pub kinds_by : (List ℕ → Facts) → Above → List ℕ → SigKind
kinds_by told above t = kind_by (told t) (clocks_by told above t) (wired_by told above t)

abbrev pub one_signal : e.Counts
one_signal = record { signals = 1; functions = 0 }

abbrev pub functions : ℕ → e.Counts
functions count = record { signals = 0; functions = count }

abbrev pub with_signal : (List ℕ → SigKind) → e.Known → x.Declared → e.Known
with_signal kinds k d =
    if is_some (k.env d.name.name) then k
    else record { env = bind k.env d.name.name (b.Signal k.next.signals (e.shape k.env (kinds d.name.name) d)); next = e.plus k.next one_signal }

abbrev pub with_function : e.Known → x.Function → e.Known
with_function k f =
    record { env = bind k.env f.name.name (b.Function k.next.functions (type_form k.env f.type)); next = e.plus k.next (functions 1) }

abbrev pub with_parameters : (List ℕ → Option Exp) → x.DataType → List x.Parameter → e.Known → e.Known
with_parameters overrides type ps k = record k { env = fold (with_parameter overrides type) k.env ps }

-- an item, where sizes tells how many signals and functions the modules have
abbrev pub with_item : (List ℕ → e.Counts) → (List ℕ → Option Exp) → (List ℕ → SigKind) → e.Known → x.Item → e.Known
with_item sizes overrides kinds k (x.Parameters type ps) = with_parameters overrides type ps k
with_item sizes overrides kinds k (x.Signals ds) = fold (with_signal kinds) k ds
with_item sizes overrides kinds k (x.Functions f) = with_function k f
with_item sizes overrides kinds k item = record k { next = e.plus k.next (e.item_counts sizes item) }

-- no name is known, and these numbers come next
abbrev pub nothing_known : Counts → e.Known
nothing_known base = record { env = none; next = counts_of base }

-- the names of items, the first signal and function having these numbers
abbrev pub names_by : (List ℕ → e.Counts) → (List ℕ → Option Exp) → (List ℕ → SigKind) → Counts → List x.Item → Env
names_by sizes overrides kinds base items = (fold (with_item sizes overrides kinds) (nothing_known base) items).env
