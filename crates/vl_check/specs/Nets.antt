-- Functions as nets: each drives a bit of each function that it calls, and reads its own.
use Rattle.std.specs.Prelude.{◌≡◌, ℕ, ◌<◌, List, [], ◌∷◌, map, Some, slice_get}
use Rattle.vl_bits.specs.declared.parts.Part.{Part}
use Rattle.cell_level.specs.declared.nets.Net.{Net}
use Rattle.vl_check.specs.declared.calls_calls.Call.{Call}
use Rattle.vl_check.specs.Tables.{row}

-- the bit of a function
abbrev pub part : ℕ → Part
part f = record { signal = f; bits = 1 }

abbrev pub IsNetOf : ℕ → List Call → Net → Type 0
IsNetOf f calls net = (net.reads.items ≡ part f ∷ []) × (net.drives.items ≡ map (λ c. part c.callee) calls)

-- each of the first n
abbrev pub AreNetsOf : List (List Call) → ℕ → List Net → Type 0
AreNetsOf rows n nets = (f : ℕ) → f < n → (net : Net) × (slice_get nets f ≡ Some net) × IsNetOf f (row rows f) net
