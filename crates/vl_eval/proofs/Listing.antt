-- Spots one by one.
use Rattle.std.proofs.Common.{◌≡◌, ◌<◌, ℕ, List, ◌∷◌, ◌++◌, length, map, ap, sym, ◌∙◌, ◌+◌, drop, get_or}
use Rattle.std.proofs.lemmas.List.{at_drop_more}
use Rattle.vl_design.specs.Targets as targets
use Rattle.vl_eval.specs.declared.spot.Spot.{Spot}
use Rattle.vl_eval.specs.Spots.{spot_of}

-- the rest of the spots begins with the next one
pub spots-more : (xs : List Spot) (i : ℕ) (x : Spot) → i < length xs → x ≡ get_or xs i x → map spot_of (drop i xs) ≡ spot_of x ∷ map spot_of (drop (i + 1) xs)
spots-more xs i x h e = at_drop_more (map spot_of) xs i x h ∙ ap (λ y. spot_of y ∷ map spot_of (drop (i + 1) xs)) (sym e)

pub ruleset spot_rules = (spots-more)
