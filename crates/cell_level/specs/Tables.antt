-- Which nets use bits of a signal, signal by signal.
use Rattle.std.specs.Prelude.{◌≡◌, ℕ, Bool, false, ◌||◌, ◌&&◌, ◌==◌, List, [], ◌∷◌, Option, Some, None, slice_get}
use Rattle.std.specs.declared.alloc.Global.{Global}
use Rattle.std.specs.declared.vec.Vec.{Vec}
use Rattle.vl_bits.specs.vl_paths.specs.Bits.{Bit}
use Rattle.vl_bits.specs.Masks.{has}
use Rattle.cell_level.specs.declared.tables.User.{User}

-- net p is among these with a bit at place i
abbrev pub in_users : List User → ℕ → ℕ → Bool
in_users [] p i = false
in_users (u ∷ us) p i = ((u.net == p) && has u.bits i) || in_users us p i

abbrev pub users_of : Option (Vec User Global) → List User
users_of None = []
users_of (Some v) = v.items

-- the table has net p with the bit
abbrev pub listed : List (Vec User Global) → ℕ → Bit → Bool
listed table p b = in_users (users_of (slice_get table b.signal)) p b.place

-- the table has each net with just the bits that it uses
abbrev pub IsTable : List (Vec User Global) → (ℕ → Bit → Bool) → Type 0
IsTable table uses = (p : ℕ) (b : Bit) → listed table p b ≡ uses p b
