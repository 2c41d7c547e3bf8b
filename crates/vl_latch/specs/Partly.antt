-- Construct 19 (own): any bit of a variable that a combinational process writes, or of a function's result, that is left unassigned
-- on some path; a bit of one of these, or of a function's local, that is read before it is assigned; a variable index assigns no
-- bit, and a case without default has a path with no match.
use Rattle.std.specs.Prelude.{◌≡◌, ℕ, nat_le, Bool, true, not, ◌||◌, ◌&&◌, ◌==◌, ◌⊎◌, List, length}
use Rattle.std.specs.List.{list_any}
use Rattle.vl_design.specs.Syntax.{Stm, Fun}
use Rattle.vl_design.specs.Width.{Names}
use Rattle.vl_bits.specs.vl_paths.specs.Bits.{Bit, is_of}
use Rattle.vl_bits.specs.vl_paths.specs.Paths.{IsAssigned, IsReadFirst}
use Rattle.vl_bits.specs.vl_paths.specs.Touched.{touched}
use Rattle.vl_bits.specs.declared.parts.Part.{Part}
use Rattle.vl_bits.specs.Masks.{in_parts}

module _ (names : Names) where
  -- the bit is one of a variable of which some assignment in the statement may write a bit
  abbrev pub IsWritten : Stm → Bit → Type 0
  IsWritten a b = (c : Bit) × (is_of names b c.signal ≡ true) × (touched names c a ≡ true)

  -- it isn't assigned on every path
  abbrev pub IsLeft : Stm → Bit → Type 0
  IsLeft a b = IsAssigned names b a → ⊥

  -- of a combinational process of this body
  abbrev pub IsPartly : Stm → Type 0
  IsPartly a = (b : Bit) × IsWritten a b × (IsLeft a b ⊎ IsReadFirst names b a)

  -- the signal is the function's result, or a local that is no input
  abbrev pub is_own : Fun → ℕ → Bool
  is_own f k = (k == f.result) || (nat_le (length names.signals) k && not (list_any (λ i. i == k) f.inputs))

  -- of a function, in the scope of its body
  abbrev pub IsPartlyFun : Fun → Type 0
  IsPartlyFun f = (b : Bit) × (((is_of names b f.result ≡ true) × IsLeft f.body b) ⊎ ((is_own f b.signal ≡ true) × IsReadFirst names b f.body))

-- a bit of the parts for which a fact holds
abbrev pub HasBit : List Part → (Bit → Type 0) → Type 0
HasBit ps P = (b : Bit) × (in_parts ps b ≡ true) × P b
