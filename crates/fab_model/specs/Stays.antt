-- Stays one after another (own).
use Rattle.std.specs.Prelude.{ℕ, ◌==◌, ◌&&◌, Bool, List, [], ◌∷◌, nat_le}
use Rattle.fab_model.specs.declared.transit.Stay.{Stay}

-- the first begins at tick s, each next one where the one before it ends, and the last ends at tick k
abbrev pub chains : ℕ → List Stay → ℕ → Bool
chains s [] k = s == k
chains s (x ∷ xs) k = (x.from == s) && (nat_le x.from x.to && chains x.to xs k)

-- it ended at the tick at which it began, by a move
abbrev pub is_idle : Stay → Bool
is_idle x = (x.to == x.from) && x.by_move
