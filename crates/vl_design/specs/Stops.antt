-- Faults of the flat design, and which comes first (own).
use Rattle.std.specs.Prelude.{ℕ, Bool, if◌then◌else◌, List, [], ◌∷◌, Option}
use Rattle.vl_base.specs.declared.place.Place.{Place}
use Rattle.vl_base.specs.Places as places
use Rattle.vl_base.specs.Places.{comes_before}
use Rattle.vl_design.specs.declared.stop.Stop.{Stop}
use Rattle.vl_design.specs.declared.stop.Stop.TheVariants.{Construct, Limit, Memory}

-- a refused construct, or a passed limit, at a place where a test holds
abbrev pub construct_if : Bool → Place → ℕ → List Stop
construct_if b at n = if b then Construct at n ∷ [] else []

abbrev pub limit_if : Bool → Place → ℕ → List Stop
limit_if b at n = if b then Limit at n ∷ [] else []

abbrev pub place_of : Stop → Place
place_of (Construct at n) = at
place_of (Limit at n) = at
place_of Memory = record { line = 0; column = 0 }

abbrev pub number_of : Stop → ℕ
number_of (Construct at n) = n
number_of (Limit at n) = n
number_of Memory = 0

-- the least place comes first, then the least number
abbrev pub is_before : Stop → Stop → Bool
is_before a b = comes_before (place_of a) (number_of a) (place_of b) (number_of b)

-- the first of one more and those so far
abbrev pub earlier : Option Stop → Stop → Option Stop
earlier best a = places.earlier is_before best a

-- the first of a list and those so far
abbrev pub earliest : Option Stop → List Stop → Option Stop
earliest best as' = places.earliest is_before best as'
