-- Who has made the move of a tick, by notes (own).
use Rattle.std.specs.Prelude.{◌≡◌, ℕ, ◌+◌, ◌==◌, ◌&&◌, ◌||◌, not, Bool, true, false, List, [], ◌∷◌, if◌then◌else◌, is_some, nat_lt, ⊤}
use Rattle.ten_core.specs.ten_plan.specs.Plans.{move_at}
use Rattle.fab_model.specs.declared.transit.Stay.{Stay}
use Rattle.fab_model.specs.Deeds.{run_in, Deed}
use Rattle.fab_model.specs.Stays.{is_idle}
use Rattle.fab_model.specs.Tokens.{Token}

-- the last of these stays ended at the tick at which it began, by a move
abbrev pub ends_idle : List Stay → Bool
ends_idle [] = false
ends_idle (x ∷ []) = is_idle x
ends_idle (x ∷ y ∷ ys) = ends_idle (y ∷ ys)

-- it is behind the move of tick j: at a later tick, or at that one with the move done
abbrev pub is_behind : (j tick : ℕ) → Deed → Bool
is_behind j tick d = nat_lt j tick || ((tick == j) && d.moved)

-- it left for the move of tick j: it rests there with the move done, was a resident, and hadn't come by it
abbrev pub is_for : (j tick : ℕ) → Deed → Bool
is_for j tick d = (tick == j) && (d.moved && (d.resident && not (ends_idle d.stays)))

-- 1 for a token of tenant t that is behind the move of tick j, 0 for any other
abbrev pub passed : (t j : ℕ) → Token → ℕ
passed t j x = if (x.tenant == t) && is_behind j x.tick x.deed then 1 else 0

-- 1 for a token of tenant t that left for the move of tick j, 0 for any other
abbrev pub left_for : (t j : ℕ) → Token → ℕ
left_for t j x = if (x.tenant == t) && is_for j x.tick x.deed then 1 else 0

abbrev pub total : (Token → ℕ) → List Token → ℕ
total f [] = 0
total f (x ∷ xs) = f x + total f xs

-- a move stands at tick j in the plan of each of these that is tenant t
abbrev pub HaveMoveAt : (t j : ℕ) → List Token → Type 0
HaveMoveAt t j [] = ⊤
HaveMoveAt t j (x ∷ xs) = (x.tenant ≡ t → is_some (move_at j (run_in x.deed).plan.errands) ≡ true) × HaveMoveAt t j xs
