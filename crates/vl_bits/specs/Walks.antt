-- What a walk through a statement collects.
use Rattle.std.specs.Prelude.{◌≡◌, ◌||◌, ◌&&◌, not, Bool, true, false, ℕ, List, length}
use Rattle.vl_design.specs.Syntax.{Exps, Stm, Items}
use Rattle.vl_design.specs.Width.{Names}
use Rattle.vl_paths.specs.Bits.{Bit, some_bit_read}
use Rattle.vl_paths.specs.Paths.{always, always_in, early, early_in, label_reads}
use Rattle.vl_paths.specs.Touched.{touched, touched_in}
use Rattle.vl_bits.specs.declared.parts.Part.{Part}
use Rattle.vl_bits.specs.Masks.{in_masks, in_parts, AreOf}
use Rattle.vl_bits.specs.declared.sets.Sets.{Sets}

-- for what assigns the bits of `sure` on every path, reads those of `first` first and may assign those of `maybe`: of the bits
-- that weren't known the first read ones are read, and `more` has those always assigned; those maybe assigned are driven;
-- and no part is of another signal
pub record Collects (sure first maybe : Bit → Bool) (s t : Sets) (more : List Part) : Type 0 where
  pub long : length t.known.items ≡ length s.known.items
  pub gained : (b : Bit) → in_parts more b ≡ (not (in_masks s.known.items b) && sure b)
  pub within : AreOf (length s.known.items) more
  pub read : (b : Bit) → in_parts t.read.items b ≡ (in_parts s.read.items b || (not (in_masks s.known.items b) && first b))
  pub driven : (b : Bit) → in_parts t.driven.items b ≡ (in_parts s.driven.items b || maybe b)
  pub read_within : AreOf (length s.known.items) s.read.items → AreOf (length s.known.items) t.read.items
  pub driven_within : AreOf (length s.known.items) s.driven.items → AreOf (length s.known.items) t.driven.items

-- and those always assigned are known
pub record Gains (sure first maybe : Bit → Bool) (s t : Sets) (more : List Part) : Type 0 where
  pub collects : Collects sure first maybe s t more
  pub known : (b : Bit) → in_masks t.known.items b ≡ (in_masks s.known.items b || sure b)

-- and what is known is as before
pub record Keeps (sure first maybe : Bit → Bool) (s t : Sets) (more : List Part) : Type 0 where
  pub collects : Collects sure first maybe s t more
  pub known : (b : Bit) → in_masks t.known.items b ≡ in_masks s.known.items b

module _ (names : Names) where
  -- a statement is walked through
  abbrev pub Walks : Stm → Sets → Sets → List Part → Type 0
  Walks a s t more = Gains (λ b. always names b a) (λ b. early names b a) (λ b. touched names b a) s t more

  -- a branch, behind which it isn't known what was done
  abbrev pub Branches : Stm → Sets → Sets → List Part → Type 0
  Branches a s t more = Keeps (λ b. always names b a) (λ b. early names b a) (λ b. touched names b a) s t more

  -- an item of a case: its labels are read, and its body is a branch
  abbrev pub WalksItem : Exps → Stm → Sets → Sets → List Part → Type 0
  WalksItem es a s t more = Keeps (λ b. always names b a) (λ b. some_bit_read names b es || early names b a) (λ b. touched names b a) s t more

  -- the items of a case
  abbrev pub WalksItems : Items → Sets → Sets → List Part → Type 0
  WalksItems items s t more = Gains (λ b. always_in names b true items) (λ b. label_reads names b items || early_in names b items) (λ b. touched_in names b items) s t more

-- no bit is in the set
abbrev pub IsClear : List ℕ → Type 0
IsClear masks = (b : Bit) → in_masks masks b ≡ false
