-- The flat design of a source, or the first fault in its order: refused constructs 10 to 13 and 24, and limits 5, 6, 7, 11
-- (IEEE 1364-2005, clause 12; the limits and the order of faults are own).
use Rattle.std.specs.Prelude.{ℕ, ◌+◌, nat_lt, Bool, true, false, ◌&&◌, ◌||◌, List, [], ◌∷◌, ◌++◌, fold, Option, Some, None, Result, Ok, Err, if◌then◌else◌}
use Rattle.vl_design.specs.vl_base.specs.declared.place.Place.{Place}
use Rattle.vl_tree.specs.declared.source_tree.Source.{Source}
use Rattle.vl_design.specs.declared.design.Signal.{Signal}
use Rattle.vl_design.specs.declared.design.SigKind.{SigKind}
use Rattle.vl_design.specs.declared.design.SigKind.TheVariants.{Loop, Clock}
use Rattle.vl_design.specs.Rows.{word_count}
use Rattle.vl_design.specs.declared.stop.Stop.{Stop}
use Rattle.vl_design.specs.declared.stop.Stop.TheVariants.{Memory}
use Rattle.vl_flat.specs.Expressions.{is_mem}
use Rattle.vl_design.specs.Placed as p
use Rattle.vl_design.specs.Stops.{limit_if, earliest}
use Rattle.vl_flat.specs.Items.{Module}
use Rattle.vl_flat.specs.Declarations.{modules}
use Rattle.vl_flat.specs.Flat.{Part, is_long_path, parts_from, design_of, top_of}

-- ---- limits 5, 6, 7 and 11

abbrev pub most_instances : ℕ
most_instances = 4096

abbrev pub most_signals : ℕ
most_signals = 16384

abbrev pub most_words : ℕ
most_words = 65536

abbrev pub most_words_in_all : ℕ
most_words_in_all = 262144

-- so many so far; clocks and loop variables are no signals here
pub record Totals : Type 0 where
  pub instances : ℕ
  pub signals : ℕ
  pub words : ℕ

abbrev pub is_counted : SigKind → Bool
is_counted Clock = false
is_counted Loop = false
is_counted kind = true

abbrev pub memory_words : Signal → ℕ
memory_words r = if is_mem r.kind then word_count r.kind r.first r.last else 0

abbrev pub with_signal : Totals → Signal → Totals
with_signal n r = record n { signals = (if is_counted r.kind then n.signals + 1 else n.signals); words = n.words + memory_words r }

abbrev pub with_instance : Totals → Place → Totals
with_instance n _ = record n { instances = n.instances + 1 }

abbrev pub with_part : Totals → Part → Totals
with_part n a = fold with_signal (fold with_instance n a.begins) a.signals

-- the limits that a signal passes, with which there are so many
abbrev pub signal_limits : Totals → Signal → List Stop
signal_limits n r =
    limit_if (is_counted r.kind && nat_lt most_signals n.signals) r.place 6
    ++ (limit_if (nat_lt most_words (memory_words r) || (is_mem r.kind && nat_lt most_words_in_all n.words)) r.place 7
    ++ limit_if (is_counted r.kind && is_long_path r.name) r.place 11)

abbrev pub signals_limits : Totals → List Signal → List Stop
signals_limits n [] = []
signals_limits n (r ∷ rs) = signal_limits (with_signal n r) r ++ signals_limits (with_signal n r) rs

abbrev pub instance_limits : Totals → List Place → List Stop
instance_limits n [] = []
instance_limits n (at ∷ as') = limit_if (nat_lt most_instances (n.instances + 1)) at 5 ++ instance_limits (with_instance n at) as'

-- ---- the first fault: of the first part that has one, the one of the least place, and there of the least number

abbrev pub part_stop : Totals → Part → Option Stop
part_stop n a = earliest None (instance_limits n a.begins ++ (signals_limits n a.signals ++ a.faults))

infixl 10 ◌>>=◌
abbrev pub ◌>>=◌ : {A B : Type 0} → Result A Stop → (A → Result B Stop) → Result B Stop
(Ok x) >>= f = f x
(Err e) >>= f = Err e

-- the totals behind a part that has no fault
abbrev pub passed : Totals → Option Stop → Result Totals Stop
passed n None = Ok n
passed n (Some f) = Err f

abbrev pub judged_part : Totals → Part → Result Totals Stop
judged_part n a = passed (with_part n a) (part_stop n a)

abbrev pub judged : Totals → List Part → Result Totals Stop
judged n [] = Ok n
judged n (a ∷ as') = judged_part n a >>= λ t. judged t as'

abbrev pub nothing_yet : Totals
nothing_yet = record { instances = 0; signals = 0; words = 0 }

-- the flat design of these modules from one of them, or the first fault
abbrev pub flattened_from : List Module → Module → Result p.Design Stop
flattened_from ms m = judged nothing_yet (parts_from ms m) >>= λ n. Ok (design_of m (parts_from ms m))

-- where there is no top, names have a fault before
abbrev pub flattened_by : List Module → Option Module → Result p.Design Stop
flattened_by ms None = Err Memory
flattened_by ms (Some m) = flattened_from ms m

-- the flat design of a source whose names have no fault, or the first fault
abbrev pub flattened : Source → Result p.Design Stop
flattened s = flattened_by (modules s) (top_of s)
