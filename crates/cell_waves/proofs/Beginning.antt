-- What registers hold of a state that begins, and slots that are read from them.
use Rattle.std.proofs.Common.{◌≡◌, ℕ, ◌+◌, ◌*◌, ◌<◌, ◌%◌, ◌^◌, true, false, List, [], length, Option, Some, None, sym, ap, ◌∙◌, arith, subst, mod-eq_of_lt}
use Rattle.std.specs.Prelude.{slice_get, slice_index, slice_index_or}
use Rattle.std.proofs.lemmas.Option.{slice_get_within}
use Rattle.ten_form.specs.vl_design.specs.Syntax.{Flat}
use Rattle.ten_form.specs.vl_design.specs.Width.{names_of, signal_form, row_form}
use Rattle.ten_form.specs.vl_design.specs.Value.{words_of, value_of}
use Rattle.ten_form.specs.vl_design.specs.Sound.{HasValue, IsMem, IsSignal, IsMemory}
use Rattle.ten_form.specs.vl_design.specs.Laws.{IsFine}
use Rattle.ten_form.specs.vl_design.specs.State.{State, Update, sample}
use Rattle.ten_form.specs.vl_runs.specs.Computed.{computed_at}
use Rattle.cell_emit.specs.vl_sites.specs.Others.{is_other_row, other_at}
use Rattle.cell_emit.specs.cell_form.specs.Data.{ListData, BankData}
use Rattle.cell_emit.specs.cell_form.specs.Sound.{Shape}
use Rattle.cell_emit.specs.Slots.{AreSound, Grows}
use Rattle.cell_emit.proofs.Frames.{sound-wider}
use Rattle.cell_emit.specs.Envs.{IsEntry, held_or}
use Rattle.cell_emit.proofs.Staying.{held-or-stays}
use Rattle.cell_emit.specs.Entries.{HasCopy}
use Rattle.cell_emit.specs.Reads.{IsRead}
use Rattle.cell_emit.proofs.Samples.{named}
use Rattle.cell_emit.specs.Pendings.{PendingSlots, slot_of, ArePending}
use Rattle.cell_emit.proofs.Keeping.{settled-stays}
use Rattle.ten_form.specs.Registers.{places, value_register, work_register, register_count}
use Rattle.ten_form.specs.Nets.{cleared, HoldsNoOthers}
use Rattle.ten_form.specs.Banks.{IsFor, HoldsState}
use Rattle.cell_waves.specs.Copies.{AreCopies}
use Rattle.cell_waves.specs.Begins.{IsPendingRead, SettlesSignals}
use Rattle.cell_waves.proofs.Clearing.{cleared-kept, cleared-fine}
use Rattle.cell_waves.proofs.Ending.{value-kept}
use Rattle.cell_waves.proofs.Placing.{HasRoom, signal-place, memory-place}
use Rattle.cell_waves.proofs.Written.{other-kept}
pub use Rattle.cell_emit.proofs.Samples.{copy-entry, copy-held}

-- ---- copies

pub copy-of : (d : Flat) (copy : ℕ) (l : ListData) (es : List (Option ℕ)) (k : ℕ) → AreCopies d.rows copy l es → IsSignal (names_of d) k → other_at d.rows k ≡ false → HasCopy l (signal_form d.rows k).width (4 * k + copy) (slot_of es k)
copy-of d copy l es k h i o =
    let n = named HasValue (slice_get d.rows k) i in
    let r = n.row in
    let wide : r.width ≡ (signal_form d.rows k).width = sym (ap (λ o. (row_form o).width) n.is) in
    subst (λ w. HasCopy l w (4 * k + copy) (slot_of es k)) wide (h.each k r n.is n.kind (sym (ap is_other_row n.is) ∙ o) n.width)

pub none-of : (d : Flat) (copy : ℕ) (l : ListData) (es : List (Option ℕ)) (k : ℕ) → AreCopies d.rows copy l es → IsSignal (names_of d) k → other_at d.rows k ≡ true → slot_of es k ≡ None
none-of d copy l es k h i o = let n = named HasValue (slice_get d.rows k) i in h.others k n.row n.is (sym (ap is_other_row n.is) ∙ o)

-- ---- where there is room

pub for-room : (d : Flat) (z : Shape) → IsFor d 0 z → HasRoom d z
for-room d z f = let regs = f.regs in let mems = f.mems in record { regs = omega (arith, regs); mems = omega (arith, mems) }

-- a larger shape that has room
pub roomy : Flat → Shape → Shape
roomy d z = record { regs = z.regs + register_count (length d.rows); mems = z.mems + length d.rows; slots = z.slots }

pub roomy-has : (d : Flat) (z : Shape) → HasRoom d (roomy d z)
unfolding roomy
roomy-has d z = record { regs = omega arith; mems = omega arith }

pub roomy-sound : (d : Flat) (z : Shape) (l : ListData) → AreSound z l → AreSound (roomy d z) l
unfolding roomy
roomy-sound d z l h = sound-wider z (roomy d z) l (omega arith) (omega arith) h

-- ---- what registers hold of a state

module _ (d : Flat) (b : BankData) (s : State) (committed : List (List ℕ)) (h : HoldsState d b s committed) (plain : HoldsNoOthers d s committed) (memory-plain : (m : ℕ) → IsMemory (names_of d) m → computed_at d.rows m ≡ false) where
  ticks-read : slice_index b.regs 2 ≡ s.ticks % 2 ^ 64
  ticks-read = let few = h.signals.few in h.signals.ticks ∙ sym (mod-eq_of_lt (omega (arith, few)))

  memory-below : (m : ℕ) → IsMemory (names_of d) m → m < length d.rows
  memory-below m i = let n = named IsMem (slice_get d.rows m) i in slice_get_within d.rows m n.row n.is

  pub memory-cleared : (values : List (List ℕ)) (m : ℕ) → IsMemory (names_of d) m → words_of (cleared d.rows values) m ≡ words_of values m
  memory-cleared values m i = cleared-kept d.rows values m (memory-below m i) (memory-plain m i)

  memory-read : (f : ℕ → ℕ) (m : ℕ) → IsMemory (names_of d) m → slice_index_or b.mems (slice_index (places f d.rows) m) [] ≡ words_of s.values m
  memory-read f m i = ap (λ j. slice_index_or b.mems j []) (memory-place d f m i) ∙ h.memories m i

  -- the work copies, with nets taken as 0
  pub works-read : IsFine d.rows s.values → IsRead (names_of d) b (places work_register d.rows) 2 1 (sample (record s { values = cleared d.rows s.values }))
  works-read fine = record {
    fine = cleared-fine d.rows s.values fine;
    signals = λ k i. ap (slice_index b.regs) (signal-place d work_register k i) ∙ h.signals.works k i;
    others = λ k i o. value-kept d s.values k i (other-kept (slice_get d.rows k) o) ∙ plain.now k o;
    memories = λ m i. memory-read work_register m i ∙ sym (memory-cleared s.values m i);
    ticks = ticks-read;
    last = h.signals.answer;
    small = h.signals.small;
  }

  -- the values committed last, with nets taken as 0
  pub values-read : IsFine d.rows committed → ((m : ℕ) → IsMemory (names_of d) m → words_of committed m ≡ words_of s.values m) →
      IsRead (names_of d) b (places value_register d.rows) 2 1 (sample (record s { values = cleared d.rows committed }))
  values-read fine same = record {
    fine = cleared-fine d.rows committed fine;
    signals = λ k i. ap (slice_index b.regs) (signal-place d value_register k i) ∙ h.signals.values k i;
    others = λ k i o. value-kept d committed k i (other-kept (slice_get d.rows k) o) ∙ plain.before k o;
    memories = λ m i. memory-read value_register m i ∙ sym (same m i) ∙ sym (memory-cleared committed m i);
    ticks = ticks-read;
    last = h.signals.answer;
    small = h.signals.small;
  }

-- ---- more cells

pub read-stays : (d : Flat) (b : BankData) (old new : ListData) (p : PendingSlots) → Grows old new → ArePending (names_of d) old p → IsPendingRead d b old p → IsPendingRead d b new p
read-stays d b old new p g h r = record {
  update = λ k i o. held-or-stays b old new (signal_form d.rows k).width (slot_of p.update k) g (h.update k i) ∙ r.update k i o;
  mask = λ k i o. held-or-stays b old new (signal_form d.rows k).width (slot_of p.mask k) g (h.mask k i) ∙ r.mask k i o;
}

pub settles-stay : (d : Flat) (b : BankData) (old new : ListData) (p : PendingSlots) (later : List Update) → Grows old new → ArePending (names_of d) old p → SettlesSignals d b old p later → SettlesSignals d b new p later
settles-stay d b old new p later g h settles base k fine i = settles base k fine i ∙ sym (settled-stays (names_of d) b old new p k (value_of base k) g h i)
