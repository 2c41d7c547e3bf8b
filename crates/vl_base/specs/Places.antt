-- Which of two numbered faults of a source comes first (own).
use Rattle.std.specs.Prelude.{ℕ, nat_lt, Bool, ◌&&◌, ◌||◌, ◌==◌, if◌then◌else◌, List, fold, Option, Some, None}
use Rattle.vl_base.specs.declared.place.Place.{Place}

-- by the line, then by the column
abbrev pub place_before : Place → Place → Bool
place_before p q = nat_lt p.line q.line || ((p.line == q.line) && nat_lt p.column q.column)

abbrev pub same_place : Place → Place → Bool
same_place p q = (p.line == q.line) && (p.column == q.column)

-- the fault of number m at the place p comes before that of number n at q: the least place comes first, then the least
-- number
abbrev pub comes_before : Place → ℕ → Place → ℕ → Bool
comes_before p m q n = place_before p q || (same_place p q && nat_lt m n)

-- of two faults the one that comes first, by such a test; the one found before where neither does
abbrev pub earlier : {F : Type 0} → (F → F → Bool) → Option F → F → Option F
earlier before None f = Some f
earlier before (Some best) f = if before f best then Some f else Some best

-- the first of those found before and a list
abbrev pub earliest : {F : Type 0} → (F → F → Bool) → Option F → List F → Option F
earliest before best fs = fold (earlier before) best fs
