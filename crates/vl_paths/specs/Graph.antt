-- The loop graph of a design whose loops are unrolled: which combinational process drives a bit that which one reads
-- (IEEE 1364-2005, clauses 6.1 and 9.7.5; that it is by bits is own).
use Rattle.std.specs.Prelude.{◌≡◌, ℕ, Bool, true, false, ◌&&◌, List, [], ◌∷◌, ⊤}
use Rattle.vl_design.specs.Syntax.{Flat}
use Rattle.vl_design.specs.Width.{names_of}
use Rattle.vl_design.specs.Queue.{is_comb, proc_at}
use Rattle.vl_paths.specs.Bits.{Bit}
use Rattle.vl_paths.specs.Paths.{early}
use Rattle.vl_paths.specs.Touched.{touched}

module _ (d : Flat) where
  -- the process of a number is combinational, and some assignment in it may write the bit
  abbrev pub drives : ℕ → Bit → Bool
  drives p b = is_comb (proc_at d p).kind && touched (names_of d) b (proc_at d p).body

  -- it is combinational, and reads the bit before it assigns it
  abbrev pub reads : ℕ → Bit → Bool
  reads p b = is_comb (proc_at d p).kind && early (names_of d) b (proc_at d p).body

  -- q reads a bit that p drives
  abbrev pub Edge : ℕ → ℕ → Type 0
  Edge p q = (b : Bit) × (drives p b ≡ true) × (reads q b ≡ true)

  -- ---- orders

  -- none of these drives a bit that q reads
  abbrev pub NoneDrives : List ℕ → ℕ → Type 0
  NoneDrives [] q = ⊤
  NoneDrives (p ∷ ps) q = ((b : Bit) → drives p b ≡ true → reads q b ≡ false) × NoneDrives ps q

  -- no process reads a bit that it drives itself, or that one behind it drives
  abbrev pub Levelled : List ℕ → Type 0
  Levelled [] = ⊤
  Levelled (p ∷ ps) = NoneDrives (p ∷ ps) p × Levelled ps
