-- Faults that are refused constructs and limits.
use Rattle.std.specs.Prelude.{◌≡◌, ⊤, Result, Ok, Err, Option, Some, None}
use Rattle.vl_check.specs.vl_design.specs.declared.stop.Stop.{Stop}
use Rattle.vl_check.specs.vl_design.specs.declared.stop.Stop.TheVariants as stop
use Rattle.vl_accept.specs.declared.fault.Fault.{Fault}
use Rattle.vl_accept.specs.declared.fault.Fault.TheVariants.{Construct, Limit, Memory}

abbrev pub fault_of : Stop → Fault
fault_of (stop.Construct at n) = Construct at n
fault_of (stop.Limit at n) = Limit at n
fault_of stop.Memory = Memory

-- an error where something stops
abbrev pub Passes : {T : Type 0} → Option Stop → Result T Fault → Type 0
Passes found (Ok v) = found ≡ None
Passes None (Err f) = ⊥
Passes (Some stop) (Err f) = f ≡ fault_of stop

-- it is judged of none, or of what stops; want of memory says nothing
abbrev pub Judges : {T : Type 0} → (Option Stop → Type 0) → Result T Fault → Type 0
Judges P (Ok v) = P None
Judges P (Err Memory) = ⊤
Judges P (Err f) = (stop : Stop) × P (Some stop) × (f ≡ fault_of stop)
