-- Faults by their places, and what comes first among them.
use Rattle.std.specs.Prelude.{◌≡◌, ℕ, ◌⊎◌, Bool, false, if◌then◌else◌, List, [], ◌∷◌, ◌++◌, Option, Some, None}
use Rattle.vl_base.specs.declared.place.Place.{Place}
use Rattle.vl_base.specs.Places as order
use Rattle.vl_scope.specs.declared.fault.Fault.{Fault}

-- the fault of a construct at a place
abbrev pub at : Place → ℕ → Fault
at p n = record { place = p; construct = n }

-- a fault comes before another: by its place, then by the construct's number
abbrev pub is_before : Fault → Fault → Bool
is_before a b = order.comes_before a.place a.construct b.place b.construct

-- the earlier of what was found and a fault
abbrev pub earlier : Option Fault → Fault → Option Fault
earlier best f = order.earlier is_before best f

-- the earliest of what was found and some faults
abbrev pub earliest : Option Fault → List Fault → Option Fault
earliest best fs = order.earliest is_before best fs

-- y is one of the list
abbrev pub In : {X : Type 0} → X → List X → Type 0
In y [] = ⊥
In y (x ∷ xs) = (x ≡ y) ⊎ In y xs

-- the first of the faults that are there, or that there is none
abbrev pub IsFirst : (Fault → Type 0) → Option Fault → Type 0
IsFirst P None = (f : Fault) → P f → ⊥
IsFirst P (Some first) = P first × ((f : Fault) → P f → is_before f first ≡ false)

-- ---- lists of faults

-- a fault of a construct at a place, if it holds
abbrev pub fault_if : Bool → Place → ℕ → List Fault
fault_if holds p n = if holds then at p n ∷ [] else []

-- what each element of a list gives, where those before it are known
abbrev pub each_after : {X Y : Type 0} → (List X → X → List Y) → List X → List X → List Y
each_after f before [] = []
each_after f before (x ∷ xs) = f before x ++ each_after f (before ++ x ∷ []) xs
