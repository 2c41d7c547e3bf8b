-- Nonblocking updates that are pending, in slots (IEEE 1364-2005, clauses 9.2.2 and 11.3; own).
use Rattle.std.specs.Prelude.{◌≡◌, ℕ, ◌<◌, ◌==◌, Bool, not, ◌&&◌, if◌then◌else◌, List, [], ◌∷◌, map, length, slice_index, slice_index_or, Option, None, All}
use Rattle.vl_sites.specs.vl_design.specs.Width.{Names, signal_form}
use Rattle.vl_sites.specs.vl_design.specs.Value.{words_of, value_of}
use Rattle.vl_sites.specs.vl_design.specs.Sound.{IsSignal, IsMemory}
use Rattle.vl_sites.specs.vl_design.specs.State.{Update, all_updated}
use Rattle.vl_sites.specs.vl_design.specs.Laws.{IsFine}
use Rattle.cell_form.specs.Cycle.{masked}
use Rattle.cell_form.specs.Data.{ListData, BankData}
use Rattle.cell_emit.specs.Slots.{held}
use Rattle.cell_emit.specs.Envs.{IsSlot, IsEntry, held_or}
use Rattle.cell_emit.specs.declared.pending.Site.{Site}
use Rattle.cell_emit.specs.declared.pending.Pending.{Pending}

-- of each signal by its number the slot of its update value and that of the mask of the bits that are updated, and the sites of
-- memory words in order
pub record PendingSlots : Type 0 where
  pub update : List (Option ℕ)
  pub mask : List (Option ℕ)
  pub sites : List Site

abbrev pub slots_of : Pending → PendingSlots
slots_of p = record { update = p.update.items; mask = p.mask.items; sites = p.sites.items }

-- the slot of a signal; none where nothing is pending
abbrev pub slot_of : List (Option ℕ) → ℕ → Option ℕ
slot_of slots k = slice_index_or slots k None

-- the memories that sites write, in order
abbrev pub memories_of : List Site → List ℕ
memories_of xs = map (λ (x : Site). x.memory) xs

-- ---- what is there

-- a site of a memory: an enable of one bit, a number of a word, and a value and a mask as wide as a word
pub record IsSite (names : Names) (l : ListData) (x : Site) : Type 0 where
  pub memory : IsMemory names x.memory
  pub enable : IsSlot l x.enable 1
  pub word : IsSlot l x.word 32
  pub value : IsSlot l x.value (signal_form names.rows x.memory).width
  pub mask : IsSlot l x.mask (signal_form names.rows x.memory).width

-- each slot is there, and as wide as its signal
pub record ArePending (names : Names) (l : ListData) (p : PendingSlots) : Type 0 where
  pub many : length p.mask ≡ length p.update
  pub update : (k : ℕ) → IsSignal names k → IsEntry l (signal_form names.rows k).width (slot_of p.update k)
  pub mask : (k : ℕ) → IsSignal names k → IsEntry l (signal_form names.rows k).width (slot_of p.mask k)
  pub sites : All (IsSite names l) p.sites

-- ---- what they make of values

-- a signal of this value, with the bits of its mask replaced by those of its update value
abbrev pub settled : BankData → ListData → PendingSlots → ℕ → ℕ → ℕ
settled b l p k v = masked v (held_or b l (slot_of p.update k)) (held_or b l (slot_of p.mask k))

-- a site writes word j of memory m
abbrev pub hits : BankData → ListData → Site → ℕ → ℕ → Bool
hits b l x m j = (x.memory == m) && (not (held b l x.enable == 0) && (held b l x.word == j))

-- word j of memory m of this value, behind sites in order
abbrev pub stored : BankData → ListData → List Site → ℕ → ℕ → ℕ → ℕ
stored b l [] m j v = v
stored b l (x ∷ xs) m j v = stored b l xs m j (if hits b l x m j then masked v (held b l x.value) (held b l x.mask) else v)

-- slots stand for pending updates: these make of any values what the slots say
pub record Pends (names : Names) (b : BankData) (l : ListData) (p : PendingSlots) (later : List Update) : Type 0 where
  pub values : (base : List (List ℕ)) (k : ℕ) → IsFine names.rows base → IsSignal names k →
      value_of (all_updated names.rows base later) k ≡ settled b l p k (value_of base k)
  pub words : (base : List (List ℕ)) (m j : ℕ) → IsFine names.rows base → IsMemory names m → j < length (words_of base m) →
      slice_index (words_of (all_updated names.rows base later) m) j ≡ stored b l p.sites m j (slice_index (words_of base m) j)
