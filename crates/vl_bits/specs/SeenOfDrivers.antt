-- What the program's parts stand for, and bits that are in masks.
use Rattle.std.specs.Prelude.{◌≡◌, ℕ, Bool, true, ◌||◌, List}
use Rattle.vl_design.specs.declared.design.Signal.{Signal}
use Rattle.vl_design.specs.Syntax.{Target}
use Rattle.vl_design.specs.Trees.{target_of}
use Rattle.vl_design.specs.Width.{Names}
use Rattle.vl_paths.specs.Bits.{Bit, bit_set}
use Rattle.vl_bits.specs.declared.parts.Part.{Part}
use Rattle.vl_bits.specs.Masks.{in_masks, in_parts}
use Rattle.vl_bits.specs.declared.leaves.Leaf.{Leaf}
use Rattle.vl_bits.specs.Drivers.{is_net, some_drives}

abbrev pub leaf_of : Leaf → Target
leaf_of l = target_of l.target.now

-- a bit of the parts for which a fact holds
abbrev pub HasBit : List Part → (Bit → Type 0) → Type 0
HasBit ps P = (b : Bit) × (in_parts ps b ≡ true) × P b

-- the bit is one of a net, and is in the masks
abbrev pub Met : List Signal → List ℕ → Bit → Type 0
Met signals masks b = (is_net signals b.signal ≡ true) × (in_masks masks b ≡ true)

-- a part drives a bit of a net that is among these
abbrev pub IsMet : List Signal → Names → (Bit → Bool) → Target → Type 0
IsMet signals names among t = (b : Bit) × (is_net signals b.signal ≡ true) × (bit_set names true b t ≡ true) × (among b ≡ true)

-- it is among these, or one of those before it drives it
abbrev pub IsAgainIn : List Signal → Names → (Bit → Bool) → List Target → Target → Type 0
IsAgainIn signals names among left t = IsMet signals names (λ b. among b || some_drives names left b) t
