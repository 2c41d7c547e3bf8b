-- The update of words (IEEE 1364-2005, clause 11.4; own).
use Rattle.std.specs.Prelude.{◌≡◌, ◌≢◌, ℕ, List, [], ◌∷◌, ◌++◌, length, slice_index_or, All, Some}
use Rattle.std.specs.List.{AllByRecursion}
use Rattle.ten_form.specs.vl_design.specs.Syntax.{Flat}
use Rattle.ten_form.specs.vl_design.specs.Width.{Names, names_of}
use Rattle.ten_form.specs.vl_design.specs.Value.{words_of}
use Rattle.ten_form.specs.vl_design.specs.State.{Update}
use Rattle.ten_form.specs.vl_design.specs.Sound.{IsMemory}
use Rattle.ten_form.specs.vl_design.specs.Laws.{IsFine}
use Rattle.cell_emit.specs.cell_form.specs.declared.cell.Write.{Write}
use Rattle.cell_emit.specs.cell_form.specs.declared.cell.Write.TheVariants as w
use Rattle.cell_emit.specs.cell_form.specs.Data.{ListData, BankData}
use Rattle.cell_emit.specs.cell_form.specs.Cycle.{written}
use Rattle.cell_emit.specs.cell_form.specs.Sound.{Shape, IsWrite, shape_of}
use Rattle.cell_emit.specs.Slots.{held, IsIn, AreSound}
use Rattle.cell_emit.specs.declared.pending.Site.{Site}
use Rattle.cell_emit.specs.Pendings.{IsSite}
use Rattle.cell_waves.specs.Lasts.{last_write, IsRegister}
use Rattle.ten_form.specs.declared.store.Store.{Store}
use Rattle.ten_form.specs.Holding.{enable_register, HoldsWords}
use Rattle.cell_waves.specs.Reading.{EachHas, HasStore, IsRead}
use Rattle.cell_waves.specs.Keeping.{each_written, IsLeft}

-- the writes of a store's word from slots, and of its register that says whether it writes one: to 0, which `here` holds
abbrev pub apply_writes : ℕ → Store → Site → List Write
apply_writes here x s = w.Mem s.memory s.enable s.word s.value s.mask ∷ w.Reg (enable_register x) here ∷ []

-- writes with those of the words of stores behind them, in order from the slots of their sites
pub record Applies (stores : List Store) (sites : List Site) (here : ℕ) (before after : List Write) : Type 0 where
  -- they may be done on a bank that has the stores, where the slots are there
  pub sound : (names : Names) (z : Shape) (l : ListData) → AllByRecursion (HasStore z) stores → All (IsSite names l) sites → IsIn l here →
      AllByRecursion (IsWrite z l.first (length l.cells)) before → AllByRecursion (IsWrite z l.first (length l.cells)) after
  -- of the registers only those that say whether a word is written are set
  pub idle : AllByRecursion (λ x. last_write after (enable_register x) ≡ Some here) stores
  pub others : (r : ℕ) → AllByRecursion (λ x. r ≢ enable_register x) stores → last_write after r ≡ last_write before r

-- ---- what it leaves

-- an update of words on a bank whose memories hold the words of these values, and whose stores what is pending. The writes before it
-- are of registers, and of none of the stores
pub record IsUpdate (d : Flat) (b : BankData) (l : ListData) (stores : List Store) (sites : List Site) (here : ℕ) (before : List Write) (values : List (List ℕ)) (later : List Update) : Type 0 where
  pub shape : Shape
  pub sound : AreSound shape l
  pub there : AllByRecursion (HasStore (shape_of b)) stores
  pub read : EachHas (IsRead d.rows l) stores sites
  pub zero : held b l here ≡ 0
  pub registers : AllByRecursion IsRegister before
  pub left : AllByRecursion (IsLeft before) stores
  pub fine : IsFine d.rows values
  pub memories : (m : ℕ) → IsMemory (names_of d) m → slice_index_or b.mems m [] ≡ words_of values m
  pub holds : HoldsWords d b stores later

-- the bank behind it
abbrev pub behind_update : BankData → ListData → List Store → List Site → ℕ → List Write → BankData
behind_update b l stores sites here before = written (held b l) (before ++ each_written (apply_writes here) stores sites) b
