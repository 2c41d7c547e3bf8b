-- The first of two faults, and what holds of one in a list with those before it (own).
use Rattle.std.specs.Prelude.{◌≡◌, List, ◌∷◌, ◌++◌, Option, Some, None}
use Rattle.vl_design.specs.declared.stop.Stop.{Stop}
use Rattle.vl_design.specs.Stops.{earlier}

-- either may be none
abbrev pub first_of : Option Stop → Option Stop → Option Stop
first_of a None = a
first_of a (Some f) = earlier a f

-- it holds of one of the list, with those before it
abbrev pub Somewhere : {X : Type 0} → (List X → X → Type 0) → List X → Type 0
Somewhere {X} P xs = (before : List X) × (x : X) × (after : List X) × (xs ≡ before ++ (x ∷ after)) × P before x
