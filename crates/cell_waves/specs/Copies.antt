-- The registers of signals in slots, and writes to them (own).
use Rattle.std.specs.Prelude.{◌≡◌, ◌≢◌, ℕ, zero, suc, ◌+◌, ◌*◌, ◌==◌, ◌≤◌, nat_lt, Bool, true, false, not, ◌&&◌, ◌||◌, if◌then◌else◌, List, [], ◌∷◌, ◌++◌, length, slice_get, slice_index_or, Option, Some, None, unwrap_or, ⊤}
use Rattle.std.specs.List.{AllByRecursion}
use Rattle.ten_form.specs.vl_design.specs.declared.design.SigKind.{SigKind}
use Rattle.ten_form.specs.vl_design.specs.declared.design.SigKind.TheVariants.{Loop, Mem, Clock}
use Rattle.ten_form.specs.vl_design.specs.Rows.{has_width}
use Rattle.ten_form.specs.vl_design.specs.Syntax.{Row}
use Rattle.ten_form.specs.vl_design.specs.Sound.{HasValue, IsWidth}
use Rattle.ten_form.specs.vl_runs.specs.Computed.{is_computed}
use Rattle.cell_emit.specs.vl_sites.specs.Others.{is_other}
use Rattle.cell_emit.specs.cell_form.specs.declared.cell.Write.{Write}
use Rattle.cell_emit.specs.cell_form.specs.declared.cell.Write.TheVariants as w
use Rattle.cell_emit.specs.cell_form.specs.Data.{ListData}
use Rattle.cell_emit.specs.cell_form.specs.Sound.{Shape, IsWrite}
use Rattle.cell_emit.specs.Slots.{width_at, IsIn}
use Rattle.cell_trim.specs.Widths.{IsWithin}
use Rattle.cell_emit.specs.Pendings.{slot_of}
use Rattle.cell_emit.specs.Entries.{HasCopy}
use Rattle.ten_form.specs.Registers.{register_count}
use Rattle.cell_waves.specs.Lasts.{last_write, IsRegister}

-- a bank has the registers of n signals
abbrev pub HasSignals : ℕ → Shape → Type 0
HasSignals n s = register_count n ≤ s.regs

-- ---- reads

-- of each signal a slot with what its register of a copy holds; of a loop variable or a clock none
pub record AreCopies (rows : List Row) (copy : ℕ) (l : ListData) (es : List (Option ℕ)) : Type 0 where
  pub many : length es ≡ length rows
  pub each : (k : ℕ) (r : Row) → slice_get rows k ≡ Some r → HasValue r.kind → is_other r.kind ≡ false → IsWidth r.width → HasCopy l r.width (4 * k + copy) (slot_of es k)
  pub others : (k : ℕ) (r : Row) → slice_get rows k ≡ Some r → is_other r.kind ≡ true → slot_of es k ≡ None

-- ---- writes

-- a signal of this kind has a register of a copy that writes change: a memory, a loop variable and a clock have none, and a signal that
-- is computed only those of what is pending
abbrev pub has_copy : ℕ → SigKind → Bool
has_copy copy Mem = false
has_copy copy Loop = false
has_copy copy Clock = false
has_copy copy kind = nat_lt 4 copy || not (is_computed kind)

abbrev pub is_written : ℕ → Option Row → Bool
is_written copy None = false
is_written copy (Some r) = has_copy copy r.kind && has_width r.width

-- an entry isn't what it was
abbrev pub differs : Option ℕ → Option ℕ → Bool
differs None None = false
differs (Some a) (Some b) = not (a == b)
differs a b = true

-- the entry of a signal isn't what it was
abbrev pub changed : List (Option ℕ) → List (Option ℕ) → ℕ → Bool
changed before after k = differs (slot_of before k) (slot_of after k)

abbrev pub each_one : ℕ → Bool
each_one k = true

-- the signal is one of those that are marked
abbrev pub marked_one : List Bool → ℕ → Bool
marked_one marks k = slice_index_or marks k false

-- it is marked, and its entry isn't what it was
abbrev pub marked_change : List Bool → List (Option ℕ) → List (Option ℕ) → ℕ → Bool
marked_change marks before after k = marked_one marks k && changed before after k

-- how many of the first n numbers pass
abbrev pub count_to : (ℕ → Bool) → ℕ → ℕ
count_to p zero = 0
count_to p (suc n) = count_to p n + (if p n then 1 else 0)

-- the slot of an entry; one that holds 0 where it has none
abbrev pub slot_or : ℕ → Option ℕ → ℕ
slot_or here e = unwrap_or e here

-- the slot that a signal's register of a copy is to be set from: of those signals that are chosen
abbrev pub wanted : List Row → ℕ → (ℕ → Bool) → List (Option ℕ) → ℕ → ℕ → Option ℕ
wanted rows copy chosen after here k = if is_written copy (slice_get rows k) && chosen k then Some (slot_or here (slot_of after k)) else None

-- writes with one of a register behind them, if it is to be
abbrev pub with_write : Bool → ℕ → ℕ → List Write → List Write
with_write true r slot sets = sets ++ w.Reg r slot ∷ []
with_write false r slot sets = sets

-- the slot that is wanted, or the one that was there
abbrev pub or_before : Option ℕ → Option ℕ → Option ℕ
or_before None before = before
or_before (Some s) before = Some s

-- the entry's slot is there
abbrev pub IsHeld : ListData → Option ℕ → Type 0
IsHeld l None = ⊤
IsHeld l (Some r) = IsIn l r

-- writes with those of the registers of a copy behind them, of the signals that are chosen
pub record Sets (rows : List Row) (copy : ℕ) (chosen : ℕ → Bool) (after : List (Option ℕ)) (here : ℕ) (old new : List Write) : Type 0 where
  pub each : (k : ℕ) → last_write new (4 * k + copy) ≡ or_before (wanted rows copy chosen after here k) (last_write old (4 * k + copy))
  pub others : (r : ℕ) → ((k : ℕ) → r ≢ 4 * k + copy) → last_write new r ≡ last_write old r
  pub registers : AllByRecursion IsRegister old → AllByRecursion IsRegister new
  -- they set registers from slots that have at most so many bits, where these slots have
  pub within : (most : ℕ → ℕ) (l : ListData) → ((k : ℕ) → is_written copy (slice_get rows k) ≡ true → chosen k ≡ true → width_at l (slot_or here (slot_of after k)) ≤ most (4 * k + copy)) →
      AllByRecursion (IsWithin most l) old → AllByRecursion (IsWithin most l) new
  -- they may be done on a bank for the design, where the slots are there
  pub sound : (z : Shape) (l : ListData) → HasSignals (length rows) z → IsIn l here →
      ((k : ℕ) → is_written copy (slice_get rows k) ≡ true → IsHeld l (slot_of after k)) →
      AllByRecursion (IsWrite z l.first (length l.cells)) old → AllByRecursion (IsWrite z l.first (length l.cells)) new
