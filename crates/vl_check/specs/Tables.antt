-- Calls as a table: for each function those in its body.
use Rattle.std.specs.Prelude.{◌≡◌, ℕ, ◌<◌, nat_lt, if◌then◌else◌, List, [], ◌∷◌, flat_map, map, length, Option, Some, None, slice_get}
use Rattle.std.specs.declared.alloc.Global.{Global}
use Rattle.std.specs.declared.vec.Vec.{Vec}
use Rattle.vl_design.specs.vl_base.specs.declared.place.Place.{Place}
use Rattle.vl_design.specs.declared.stop.Stop.{Stop}
use Rattle.vl_design.specs.declared.stop.Stop.TheVariants.{Construct}
use Rattle.vl_design.specs.First.{In}
use Rattle.vl_sites.specs.Sites.{What, Calls, Site}
use Rattle.vl_check.specs.declared.calls_calls.Call.{Call}
use Rattle.vl_check.specs.Recursion.{Reaches}

abbrev pub call : Place → ℕ → Call
call at g = record { place = at; callee = g }

-- a call of one of n functions
abbrev pub calls_at : ℕ → Place → What → List Call
calls_at n at (Calls g) = if nat_lt g n then call at g ∷ [] else []
calls_at n at what = []

abbrev pub calls_in : ℕ → List Site → List Call
calls_in n ss = flat_map (λ s. calls_at n s.at s.what) ss

abbrev pub rows_of : List (Vec Call Global) → List (List Call)
rows_of table = map (λ v. v.items) table

abbrev pub some_row : Option (List Call) → List Call
some_row None = []
some_row (Some cs) = cs

-- the calls in the body of a function
abbrev pub row : List (List Call) → ℕ → List Call
row rows f = some_row (slice_get rows f)

-- f calls g
abbrev pub Step : List (List Call) → ℕ → ℕ → Type 0
Step rows f g = (c : Call) × In c (row rows f) × (c.callee ≡ g)

-- they are calls of the first n functions
abbrev pub AreBelow : ℕ → List Call → Type 0
AreBelow n calls = (c : Call) → In c calls → c.callee < n

-- all are calls of functions of the table
abbrev pub IsClosed : List (List Call) → Type 0
IsClosed rows = (f : ℕ) → AreBelow (length rows) (row rows f)

-- a call of f that leads back to it, at the call
abbrev pub IsBack : List (List Call) → ℕ → Call → Stop → Type 0
IsBack rows f c s = Reaches (Step rows) c.callee f × (s ≡ Construct c.place 20)

-- a call of a function
abbrev pub IsCycleCall : List (List Call) → Stop → Type 0
IsCycleCall rows s = (f : ℕ) × (c : Call) × In c (row rows f) × IsBack rows f c s

-- of one of the first n
abbrev pub IsBefore : List (List Call) → ℕ → Stop → Type 0
IsBefore rows n s = (f : ℕ) × (f < n) × (c : Call) × In c (row rows f) × IsBack rows f c s
