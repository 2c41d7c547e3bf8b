-- What sites write kept in the registers of stores (IEEE 1364-2005, clause 9.2.2; own).
use Rattle.std.specs.Prelude.{◌≡◌, ℕ, ◌<◌, ◌≤◌, ◌⊎◌, List, [], ◌∷◌, ◌++◌, length, slice_index, All, Some, None}
use Rattle.std.specs.List.{AllByRecursion}
use Rattle.ten_form.specs.vl_design.specs.Syntax.{Flat}
use Rattle.ten_form.specs.vl_design.specs.Width.{Names, names_of}
use Rattle.ten_form.specs.vl_design.specs.Value.{words_of}
use Rattle.ten_form.specs.vl_design.specs.State.{Update, all_updated}
use Rattle.ten_form.specs.vl_design.specs.Sound.{IsMemory}
use Rattle.ten_form.specs.vl_design.specs.Laws.{IsFine}
use Rattle.cell_emit.specs.cell_form.specs.declared.cell.Write.{Write}
use Rattle.cell_emit.specs.cell_form.specs.declared.cell.Write.TheVariants as w
use Rattle.cell_emit.specs.cell_form.specs.Data.{ListData, BankData}
use Rattle.cell_emit.specs.cell_form.specs.Sound.{Shape, IsWrite, shape_of}
use Rattle.cell_emit.specs.Slots.{AreSound}
use Rattle.cell_emit.specs.declared.pending.Site.{Site}
use Rattle.cell_emit.specs.Pendings.{IsSite, stored}
use Rattle.cell_waves.specs.Lasts.{last_write, IsRegister}
use Rattle.ten_form.specs.declared.store.Store.{Store}
use Rattle.ten_form.specs.Stores.{IsBeside, AreDisjoint}
use Rattle.ten_form.specs.Holding.{enable_register, word_register, value_register, mask_register, IsIdle}
use Rattle.cell_waves.specs.Reading.{EachHas, HasStore, IsRead}

-- writes of each store and its site, in order
abbrev pub each_written : (Store → Site → List Write) → List Store → List Site → List Write
each_written f [] ss = []
each_written f (x ∷ xs) [] = []
each_written f (x ∷ xs) (s ∷ ss) = f x s ++ each_written f xs ss

-- ---- registers of stores

-- the registers of a store hold 0
abbrev pub IsZero : BankData → Store → Type 0
IsZero b x = (r : ℕ) → x.first ≤ r → r ≤ mask_register x → slice_index b.regs r ≡ 0

-- ---- the writes of a segment

-- the writes of a store's registers from a site's slots
abbrev pub keep_writes : Store → Site → List Write
keep_writes x s =
    w.Reg (enable_register x) s.enable ∷ w.Reg (word_register x) s.word ∷ w.Reg (value_register x) s.value ∷ w.Reg (mask_register x) s.mask ∷ []

-- the last writes of a store's registers are from the slots of a site of the same memory
pub record IsKept (sets : List Write) (x : Store) (s : Site) : Type 0 where
  pub memory : x.memory ≡ s.memory
  pub enable : last_write sets (enable_register x) ≡ Some s.enable
  pub word : last_write sets (word_register x) ≡ Some s.word
  pub value : last_write sets (value_register x) ≡ Some s.value
  pub mask : last_write sets (mask_register x) ≡ Some s.mask

-- no register of a store is written
abbrev pub IsLeft : List Write → Store → Type 0
IsLeft sets x = (r : ℕ) → x.first ≤ r → r ≤ mask_register x → last_write sets r ≡ None

-- writes with those of the registers of stores behind them, from the slots of their sites
pub record Keeps (stores : List Store) (sites : List Site) (old new : List Write) : Type 0 where
  pub are : new ≡ old ++ each_written keep_writes stores sites
  pub each : AreDisjoint stores → EachHas (IsKept new) stores sites
  pub others : (r : ℕ) → AllByRecursion (IsBeside r) stores → last_write new r ≡ last_write old r
  pub registers : AllByRecursion IsRegister old → AllByRecursion IsRegister new
  -- they may be done on a bank that has the stores, where the slots are there
  pub sound : (names : Names) (z : Shape) (l : ListData) → AllByRecursion (HasStore z) stores → All (IsSite names l) sites →
      AllByRecursion (IsWrite z l.first (length l.cells)) old → AllByRecursion (IsWrite z l.first (length l.cells)) new

-- ---- what they leave

-- behind these writes the registers of a store hold what a site says: they are set from its slots, or left where these are a copy of them
abbrev pub IsHeld : Flat → ListData → List Write → Store → Site → Type 0
IsHeld d l sets x s = IsKept sets x s ⊎ (IsLeft sets x × IsRead d.rows l x s)

-- the writes of a segment on a bank, behind which `later` is pending. It reads the registers of the stores of segments before it as
-- sites, adds its own sites behind them, and all of these are held. The stores of the segments behind it are left, and idle yet
pub record IsSegment (d : Flat) (b : BankData) (l : ListData) (kept behind : List Store) (sites : List Site) (sets : List Write) (later : List Update) : Type 0 where
  pub shape : Shape
  pub sound : AreSound shape l
  pub there : AllByRecursion (HasStore (shape_of b)) (kept ++ behind)
  pub slots : All (IsSite (names_of d) l) sites
  pub each : EachHas (IsHeld d l sets) kept sites
  pub left : AllByRecursion (IsLeft sets) behind
  pub idle : AllByRecursion (IsIdle b) behind
  -- what the pending updates make of words, the slots of the sites say
  pub words : (base : List (List ℕ)) (m j : ℕ) → IsFine d.rows base → IsMemory (names_of d) m → j < length (words_of base m) →
      slice_index (words_of (all_updated d.rows base later) m) j ≡ stored b l sites m j (slice_index (words_of base m) j)
