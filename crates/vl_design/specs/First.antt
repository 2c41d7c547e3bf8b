-- The first fault among those that are there (own).
use Rattle.std.specs.Prelude.{◌≡◌, ◌⊎◌, false, List, [], ◌∷◌, Option, Some, None}
use Rattle.vl_design.specs.declared.stop.Stop.{Stop}
use Rattle.vl_design.specs.Stops.{is_before}

-- y is one of the list
abbrev pub In : {X : Type 0} → X → List X → Type 0
In y [] = ⊥
In y (x ∷ xs) = (x ≡ y) ⊎ In y xs

-- the first of the faults that are there, or that there is none
abbrev pub IsFirst : (Stop → Type 0) → Option Stop → Type 0
IsFirst P None = (f : Stop) → P f → ⊥
IsFirst P (Some first) = P first × ((f : Stop) → P f → is_before f first ≡ false)
