-- A design in the making, part by part.
use Rattle.std.specs.Prelude.{◌≡◌, Result, Ok, Err, List, ◌++◌, map, flat_map}
use Rattle.vl_design.specs.declared.stop.Stop.{Stop}
use Rattle.vl_design.specs.declared.stop.Stop.TheVariants.{Construct, Limit, Memory}
use Rattle.elab_plain.specs.vl_flat.specs.Flat.{Part}
use Rattle.elab_plain.specs.vl_flat.specs.Outcome as o
use Rattle.vl_design.specs.Seen.{func_of, process_of}
use Rattle.vl_elab.specs.declared.making.Making.{Making}
use Rattle.vl_elab.specs.declared.making.Totals.{Totals}

abbrev pub totals_of : Totals → o.Totals
totals_of t = record { instances = t.instances; signals = t.signals; words = t.words }

-- these parts were passed, and stand behind what was there
pub record Grows (old new : Making) (parts : List Part) : Type 0 where
  pub judged : o.judged (totals_of old.totals) parts ≡ Ok (totals_of new.totals)
  pub signals : new.signals.items ≡ old.signals.items ++ flat_map (λ a. a.signals) parts
  pub funcs : map func_of new.funcs.items ≡ map func_of old.funcs.items ++ flat_map (λ a. a.funcs) parts
  pub processes : map process_of new.processes.items ≡ map process_of old.processes.items ++ flat_map (λ a. a.processes) parts

-- these parts have this first fault; want of memory says nothing
abbrev pub Stops : Stop → Totals → List Part → Type 0
Stops (Construct at n) t parts = o.judged (totals_of t) parts ≡ Err (Construct at n)
Stops (Limit at n) t parts = o.judged (totals_of t) parts ≡ Err (Limit at n)
Stops Memory t parts = Unit {0}

-- what came of adding these parts
abbrev pub Adds : Making → Making → List Part → {A : Type 0} → Result A Stop → Type 0
Adds old new parts (Ok a) = Grows old new parts
Adds old new parts (Err stop) = Stops stop old.totals parts

-- these parts are all that is made
pub record IsMade (parts : List Part) (m : Making) : Type 0 where
  pub judged : o.judged o.nothing_yet parts ≡ Ok (totals_of m.totals)
  pub signals : m.signals.items ≡ flat_map (λ a. a.signals) parts
  pub funcs : map func_of m.funcs.items ≡ flat_map (λ a. a.funcs) parts
  pub processes : map process_of m.processes.items ≡ flat_map (λ a. a.processes) parts

-- what came of making these parts
abbrev pub Makes : List Part → Result Making Stop → Type 0
Makes parts (Ok m) = IsMade parts m
Makes parts (Err (Construct at n)) = o.judged o.nothing_yet parts ≡ Err (Construct at n)
Makes parts (Err (Limit at n)) = o.judged o.nothing_yet parts ≡ Err (Limit at n)
Makes parts (Err Memory) = Unit {0}
