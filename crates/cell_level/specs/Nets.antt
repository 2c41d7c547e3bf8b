-- The loop graph of nets: which net drives a bit that which one reads (IEEE 1364-2005, clauses 6.1 and 9.7.5; that it is by
-- bits is own). Its orders and its cycles.
use Rattle.std.specs.Prelude.{◌≡◌, ℕ, Bool, true, false, List, [], ◌∷◌, length, ⊤, Option, Some, None, All, slice_get, nat_lt, if◌then◌else◌}
use Rattle.vl_bits.specs.vl_paths.specs.Bits.{Bit}
use Rattle.vl_bits.specs.Masks.{in_parts, AreOf}
use Rattle.cell_level.specs.declared.nets.Net.{Net}
use Rattle.cell_level.specs.declared.nets.Levels.{Levels}
use Rattle.cell_level.specs.declared.nets.Levels.TheVariants.{Ordered, Loop}
use Rattle.cell_level.specs.Cycles.{times, IsLowestCycle}

-- all bits are of the first n signals
abbrev pub AreNets : ℕ → List Net → Type 0
AreNets n nets = All (λ net. AreOf n net.reads.items × AreOf n net.drives.items) nets

-- what there is of a net drives the bit, or reads it
abbrev pub net_drives : Option Net → Bit → Bool
net_drives None b = false
net_drives (Some net) b = in_parts net.drives.items b

abbrev pub net_reads : Option Net → Bit → Bool
net_reads None b = false
net_reads (Some net) b = in_parts net.reads.items b

module _ (nets : List Net) where
  -- the net of a number drives the bit, or reads it
  abbrev pub drives : ℕ → Bit → Bool
  drives p b = net_drives (slice_get nets p) b

  abbrev pub reads : ℕ → Bit → Bool
  reads p b = net_reads (slice_get nets p) b

  -- q reads a bit that p drives
  abbrev pub Edge : ℕ → ℕ → Type 0
  Edge p q = (b : Bit) × (drives p b ≡ true) × (reads q b ≡ true)

  -- none of these drives a bit that q reads
  abbrev pub NoneDrives : List ℕ → ℕ → Type 0
  NoneDrives [] q = ⊤
  NoneDrives (p ∷ ps) q = ((b : Bit) → drives p b ≡ true → reads q b ≡ false) × NoneDrives ps q

  -- no net reads a bit that it drives itself, or that one behind it drives
  abbrev pub Levelled : List ℕ → Type 0
  Levelled [] = ⊤
  Levelled (p ∷ ps) = NoneDrives (p ∷ ps) p × Levelled ps

  -- each net stands in the order once, and nothing else does
  pub record IsOrder (order : List ℕ) : Type 0 where
    pub once : (p : ℕ) → times p order ≡ (if nat_lt p (length nets) then 1 else 0)
    pub levelled : Levelled order

  abbrev pub IsAnswer : Levels → Type 0
  IsAnswer (Ordered v) = IsOrder v.items
  IsAnswer (Loop v) = IsLowestCycle Edge v.items

abbrev pub is_ordered : Levels → Bool
is_ordered (Ordered v) = true
is_ordered (Loop v) = false
