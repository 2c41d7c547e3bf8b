-- Sets of bits, as masks and as lists of parts.
use Rattle.std.specs.Prelude.{◌≡◌, ℕ, ◌<◌, Bool, false, not, ◌||◌, ◌&&◌, ◌==◌, List, [], ◌∷◌, All, slice_index}
use Rattle.std.specs.Int.{bit_at}
use Rattle.vl_paths.specs.Bits.{Bit}
use Rattle.vl_bits.specs.declared.parts.Part.{Part}

-- a mask has the bit of this number
abbrev pub has : ℕ → ℕ → Bool
has mask i = bit_at mask i == 1

-- one mask for each signal: the bit is in the set
abbrev pub in_masks : List ℕ → Bit → Bool
in_masks masks b = has (slice_index masks b.signal) b.place

-- the bit is one of the part's
abbrev pub in_part : Part → Bit → Bool
in_part p b = (b.signal == p.signal) && has p.bits b.place

-- it is in one of the parts
abbrev pub in_parts : List Part → Bit → Bool
in_parts [] b = false
in_parts (p ∷ ps) b = in_part p b || in_parts ps b

-- the parts are of the first n signals
abbrev pub AreOf : ℕ → List Part → Type 0
AreOf n parts = All (λ p. p.signal < n) parts

-- of the bits that pass the test those that aren't known are added to the parts
abbrev pub Looks : List ℕ → List Part → List Part → (Bit → Bool) → Type 0
Looks known before after test = (b : Bit) → in_parts after b ≡ (in_parts before b || (not (in_masks known b) && test b))
