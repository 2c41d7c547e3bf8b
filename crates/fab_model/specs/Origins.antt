-- What tenants start from, where that is named for each number (own).
use Rattle.std.specs.Prelude.{◌≡◌, ℕ, List, [], ◌∷◌, Option, Some, None, slice_get, ⊤}
use Rattle.std.specs.declared.alloc.Global.{Global}
use Rattle.std.specs.declared.snapshot.Snapshot.{Snapshot}
use Rattle.std.specs.declared.vec.Vec.{Vec}
use Rattle.ten_core.specs.declared.origin.Origin.{Origin}
use Rattle.fab_model.specs.Tokens.{Token}

-- what the tenants of each number start from, or nothing is said of that
abbrev pub Origins : Type 0
Origins = Option (Snapshot (Vec Origin Global))

-- tenant t starts from o
abbrev pub StartsFrom : Origins → ℕ → Origin → Type 0
StartsFrom None t o = ⊤
StartsFrom (Some all) t o = slice_get all.value.items t ≡ Some o

-- each of these tenants starts from what is named for its number
abbrev pub AreOwn : Origins → List Token → Type 0
AreOwn all [] = ⊤
AreOwn all (x ∷ xs) = StartsFrom all x.tenant x.deed.origin × AreOwn all xs
