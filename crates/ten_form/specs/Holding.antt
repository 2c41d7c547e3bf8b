-- Pending writes to words of memories in registers: of each nonblocking assignment to a word four (IEEE 1364-2005, clauses 9.2.2 and
-- 11.4; own).
use Rattle.std.specs.Prelude.{◌≡◌, ℕ, ◌+◌, ◌<◌, ◌^◌, ◌==◌, Bool, not, ◌&&◌, if◌then◌else◌, List, [], ◌∷◌, length, slice_index, All}
use Rattle.vl_design.specs.Syntax.{Flat}
use Rattle.vl_design.specs.Width.{names_of, signal_form}
use Rattle.vl_design.specs.Value.{words_of}
use Rattle.vl_design.specs.State.{Update, all_updated}
use Rattle.vl_design.specs.Sound.{IsMemory}
use Rattle.vl_design.specs.Laws.{IsFine}
use Rattle.cell_emit.specs.cell_form.specs.Cycle.{masked}
use Rattle.cell_emit.specs.cell_form.specs.Data.{BankData}
use Rattle.ten_form.specs.declared.store.Store.{Store}

-- the registers of a store: whether a word is written, the word's number, the value, and the mask of the bits that it replaces
abbrev pub enable_register : Store → ℕ
enable_register x = x.first

abbrev pub word_register : Store → ℕ
word_register x = x.first + 1

abbrev pub value_register : Store → ℕ
value_register x = x.first + 2

abbrev pub mask_register : Store → ℕ
mask_register x = x.first + 3

-- a store writes word j of memory m
abbrev pub writes_word : BankData → Store → ℕ → ℕ → Bool
writes_word b x m j = (x.memory == m) && (not (slice_index b.regs (enable_register x) == 0) && (slice_index b.regs (word_register x) == j))

-- word j of memory m of this value, behind stores in order
abbrev pub stored_by : BankData → List Store → ℕ → ℕ → ℕ → ℕ
stored_by b [] m j v = v
stored_by b (x ∷ xs) m j v =
    stored_by b xs m j (if writes_word b x m j then masked v (slice_index b.regs (value_register x)) (slice_index b.regs (mask_register x)) else v)

-- a store is of a memory, and its registers hold a bit, a number of 32 bits, and a value and a mask as wide as a word
pub record IsStore (d : Flat) (b : BankData) (x : Store) : Type 0 where
  pub memory : IsMemory (names_of d) x.memory
  pub enable : slice_index b.regs (enable_register x) < 2
  pub word : slice_index b.regs (word_register x) < 2 ^ 32
  pub value : slice_index b.regs (value_register x) < 2 ^ (signal_form d.rows x.memory).width
  pub mask : slice_index b.regs (mask_register x) < 2 ^ (signal_form d.rows x.memory).width

-- a store that writes no word
abbrev pub IsIdle : BankData → Store → Type 0
IsIdle b x = slice_index b.regs (enable_register x) ≡ 0

-- the registers of stores say what the pending updates make of words
pub record HoldsWords (d : Flat) (b : BankData) (stores : List Store) (later : List Update) : Type 0 where
  pub each : All (IsStore d b) stores
  pub words : (base : List (List ℕ)) (m j : ℕ) → IsFine d.rows base → IsMemory (names_of d) m → j < length (words_of base m) →
      slice_index (words_of (all_updated d.rows base later) m) j ≡ stored_by b stores m j (slice_index (words_of base m) j)
