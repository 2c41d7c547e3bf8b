-- How wide the registers are that states set (own).
use Rattle.std.specs.Prelude.{◌≡◌, ℕ, ◌+◌, List, [], ◌∷◌, ◌++◌, slice_get, slice_index, Some, if◌then◌else◌}
use Rattle.std.specs.List.{AllByRecursion, flat_map}
use Rattle.vl_design.specs.Syntax.{Row, Flat}
use Rattle.vl_design.specs.Width.{signal_form}
use Rattle.cell_emit.specs.cell_form.specs.Data.{StateData}
use Rattle.ten_form.specs.declared.store.Store.{Store}
use Rattle.ten_form.specs.Banks.{stores_in}
use Rattle.ten_form.specs.Delays.{is_delayed}
use Rattle.cell_waves.specs.Copies.{has_copy}
use Rattle.cell_trim.specs.Widths.{IsWithin}

-- that of a copy of a signal: as wide as the signal, and 0 where no state sets it
abbrev pub copy_width : ℕ → Row → ℕ
copy_width copy r = if has_copy copy r.kind then r.width else 0

-- that of what is pending of signal k, of which there is something where a nonblocking assignment names it
abbrev pub pending_width : Flat → ℕ → ℕ → Row → ℕ
pending_width d k copy r = if is_delayed d k then copy_width copy r else 0

-- those of signal k: the value committed last, the work copy, and the new value and the mask that are pending
abbrev pub row_widths : Flat → ℕ → Row → List ℕ
row_widths d k r = copy_width 3 r ∷ copy_width 4 r ∷ pending_width d k 5 r ∷ pending_width d k 6 r ∷ []

-- those of signals, from number k on
abbrev pub rows_widths : Flat → ℕ → List Row → List ℕ
rows_widths d k [] = []
rows_widths d k (r ∷ rs) = row_widths d k r ++ rows_widths d (k + 1) rs

-- those of a store: whether it writes a word, which one, its new value and its mask
abbrev pub store_widths : List Row → Store → List ℕ
store_widths rows x = 1 ∷ 32 ∷ (signal_form rows x.memory).width ∷ (signal_form rows x.memory).width ∷ []

-- those of a design: the state that is next, the answer of a system function, and the ticks; those of signals, and those of stores
abbrev pub register_widths : Flat → List ℕ
register_widths d = 32 ∷ 32 ∷ 32 ∷ (rows_widths d 0 d.rows ++ flat_map (store_widths d.rows) (stores_in d))

abbrev pub register_width : Flat → ℕ → ℕ
register_width d r = slice_index (register_widths d) r

-- a state sets no register from a slot that is wider
abbrev pub IsNarrow : Flat → StateData → Type 0
IsNarrow d s = AllByRecursion (IsWithin (register_width d) s.cells) s.cells.sets

abbrev pub AreNarrow : Flat → List StateData → Type 0
AreNarrow d states = (n : ℕ) (s : StateData) → slice_get states n ≡ Some s → IsNarrow d s
