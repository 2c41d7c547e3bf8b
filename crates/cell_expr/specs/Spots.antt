-- The spots of a target in cells (IEEE 1364-2005, clauses 9.2 and 5.1.14).
use Rattle.std.specs.Prelude.{◌≡◌, ℕ, ◌≤◌, pos, ◌++◌, ◌+◌, List, [], ◌∷◌, map, All, Option, Some, None, Bool, true, false}
use Rattle.vl_design.specs.Value.{Sample}
use Rattle.vl_design.specs.Syntax.{Exp, Target, Row}
use Rattle.vl_design.specs.State.{Update}
use Rattle.vl_design.specs.Width.{Names, Scope, signal_form}
use Rattle.vl_design.specs.Sound.{IsSignal, IsMemory, IsWidth}
use Rattle.vl_design.specs.Targets as t
use Rattle.cell_emit.specs.cell_form.specs.Data.{ListData, BankData}
use Rattle.cell_emit.specs.cell_form.specs.Sound.{Shape}
use Rattle.cell_emit.specs.Slots.{held, width_at, IsIn, AreSound, Longer}
use Rattle.cell_emit.specs.Envs.{Env, HasMemories, Stands}
use Rattle.cell_emit.specs.Paths.{Low, Constant, By, IsLow, low_in, low_of}
use Rattle.cell_expr.specs.declared.address.Address.{Address}
use Rattle.cell_expr.specs.declared.spot.Spot.{Spot}
use Rattle.cell_expr.specs.Chosen.{word_named}
use Rattle.cell_expr.specs.Counts.{is_word, part_count, parts_count}
use Rattle.cell_emit.specs.vl_sites.specs.Stored.{target_stored}

-- ---- what a spot is of: a signal, or the word of a memory by its address

-- a signal that may be written, or a memory; the address is there
abbrev pub IsOf : Names → ℕ → ListData → ℕ → Option Address → Type 0
IsOf names first l k None = IsSignal names k × (first ≤ k)
IsOf names first l k (Some a) = IsMemory names k × IsIn l a.slot

-- the number of its word, one past the last where the address names none
abbrev pub word_in : List Row → BankData → ListData → ℕ → Option Address → ℕ
word_in rows b l k None = 0
word_in rows b l k (Some a) = word_named rows b l k a

-- the memory whose word it is
abbrev pub memory_at : ℕ → Option Address → List ℕ
memory_at k None = []
memory_at k (Some a) = k ∷ []

-- whether it is a word
abbrev pub has_word : Option Address → Bool
has_word None = false
has_word (Some a) = true

-- whether an index names the lowest bit
abbrev pub has_index : Low → Bool
has_index (Constant low) = false
has_index (By index signed from) = true

-- with at most n cells more, what a target is of that is a whole signal or word
pub record Based (scope : Scope) (n : ℕ) (target : Target) (at : Env) (old new : ListData) (k : ℕ) (word : Option Address) : Type 0 where
  pub longer : Longer (HasMemories scope.names at) n old new
  pub is_of : IsOf scope.names at.first new k word
  pub wide : t.target_width scope.names target ≡ (signal_form scope.names.rows k).width
  pub many : has_word word ≡ is_word target
  pub all : (later : Bool) → parts_count target later ≡ part_count later (is_word target) false
  pub stored : memory_at k word ≡ target_stored target
  pub value : (s : Shape) (b : BankData) (x : Sample) → AreSound s old → Stands scope.names b old at x →
      t.spots scope x target ≡ record { signal = k; word = word_in scope.names.rows b new k word; low = pos 0; width = (signal_form scope.names.rows k).width } ∷ []

-- ---- spots

pub record IsSpot (names : Names) (first : ℕ) (l : ListData) (p : Spot) : Type 0 where
  pub is_of : IsOf names first l p.signal p.word
  pub width : IsWidth p.width
  pub low : IsLow l (low_of p.low)

-- the spot, by what an address and an index hold
abbrev pub spot_in : List Row → BankData → ListData → Spot → t.Spot
spot_in rows b l p = record { signal = p.signal; word = word_in rows b l p.signal p.word; low = low_in b l (low_of p.low); width = p.width }

-- the update of a part in a slot to the spot
abbrev pub update_of : List Row → BankData → ListData → Spot → ℕ → Update
update_of rows b l p part = record { signal = p.signal; word = word_in rows b l p.signal p.word; low = low_in b l (low_of p.low); width = width_at l part; value = held b l part }

-- how many bits they have
abbrev pub bits_of : List Spot → ℕ
bits_of [] = 0
bits_of (p ∷ ps) = p.width + bits_of ps

-- how many cells write one at most, or make its update pending (true), with the one that takes its bits
abbrev pub spot_cells : Bool → Spot → ℕ
spot_cells later p = part_count later (has_word p.word) (has_index (low_of p.low))

-- and all
abbrev pub cells_of : Bool → List Spot → ℕ
cells_of later [] = 0
cells_of later (p ∷ ps) = spot_cells later p + cells_of later ps

-- the memories whose words they are of
abbrev pub stored_by : List Spot → List ℕ
stored_by [] = []
stored_by (p ∷ ps) = memory_at p.signal p.word ++ stored_by ps

-- with at most n cells more, spots of so many bits, and of words of these memories, stand behind others
pub record Spotted (names : Names) (n : ℕ) (at : Env) (old new : ListData) (before after : List Spot) (bits : ℕ) (parts : Bool → ℕ) (stored : List ℕ) (f : Sample → List t.Spot) : Type 0 where
  pub longer : Longer (HasMemories names at) n old new
  pub more : List Spot
  pub are : after ≡ before ++ more
  pub sound : All (IsSpot names at.first new) more
  pub value : (s : Shape) (b : BankData) (x : Sample) → AreSound s old → Stands names b old at x → map (spot_in names.rows b new) more ≡ f x
  pub wide : bits_of more ≡ bits
  pub many : (later : Bool) → cells_of later more ≡ parts later
  pub words : stored_by more ≡ stored

-- with at most n cells more, spots and the slot of a value make the updates of an assignment
pub record Assigned (scope : Scope) (n : ℕ) (target : Target) (e : Exp) (at : Env) (old new : ListData) (spots : List Spot) (value : ℕ) : Type 0 where
  pub longer : Longer (HasMemories scope.names at) n old new
  pub sound : All (IsSpot scope.names at.first new) spots
  pub many : (later : Bool) → cells_of later spots ≡ parts_count target later
  pub words : stored_by spots ≡ target_stored target
  pub there : IsIn new value
  pub within : bits_of spots ≤ width_at new value
  pub narrow : width_at new value ≤ 128
  pub updates : (s : Shape) (b : BankData) (x : Sample) → AreSound s old → Stands scope.names b old at x →
      t.updates_at (map (spot_in scope.names.rows b new) spots) (held b new value) ≡ t.assignment scope x target e
