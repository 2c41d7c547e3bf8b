-- What a cycle leaves.
use Rattle.std.proofs.Common.{◌≡◌, ℕ, zero, suc, ◌+◌, ◌-◌, ◌<◌, ◌≤◌, List, [], ◌∷◌, length, refl, ap, ◌∙◌, arith}
use Rattle.std.specs.Prelude.{slice_index}
use Rattle.std.proofs.lemmas.List.{length-map}
use Rattle.cell_form.specs.Data.{CellData, ListData, BankData}
use Rattle.cell_form.specs.Values.{Slot, slot_at, slots_of}
use Rattle.cell_form.specs.Cycle.{put_at, values_of, value_at, filled, cycled}
use Rattle.cell_form.specs.Sound.{IsList, SameShape, shape_of}
use Rattle.cell_form.proofs.Slots.{slots-length}
use Rattle.cell_form.proofs.Putting.{put-length, put-held, put-before, put-behind}
use Rattle.cell_form.proofs.Writing.{written-regs, written-lengths, written-slots}

-- the value of a slot by its number
pub value-at : (xs : List Slot) (k : ℕ) → slice_index (values_of xs) k ≡ (slot_at xs k).value
value-at [] k = refl
value-at (x ∷ xs) zero = refl
value-at (x ∷ xs) (suc k) = value-at xs k

-- as many values as cells
pub values-length : (first : ℕ) (regs : List ℕ) (mems : List (List ℕ)) (cells : List CellData) → length (values_of (slots_of first regs mems cells)) ≡ length cells
values-length first regs mems cells =
    length-map (slots_of first regs mems cells) (λ (x : Slot). x.value) ∙ slots-length first regs mems cells

module _ (l : ListData) (b : BankData) (h : IsList (shape_of b) l) where
  within : l.first + length (values_of (slots_of l.first b.regs b.mems l.cells)) ≤ length b.slots
  within = let e = values-length l.first b.regs b.mems l.cells in omega (arith, e, h.slots)

  same-slots : (cycled l b).slots ≡ put_at l.first (values_of (slots_of l.first b.regs b.mems l.cells)) b.slots
  same-slots = written-slots (value_at l.first (slots_of l.first b.regs b.mems l.cells)) l.sets (filled l.first l.cells b)

  pub slot-held : (k : ℕ) → k < length l.cells → slice_index (cycled l b).slots (l.first + k) ≡ value_at l.first (slots_of l.first b.regs b.mems l.cells) (l.first + k)
  slot-held k lt =
      let s = slots_of l.first b.regs b.mems l.cells in
      let e = values-length l.first b.regs b.mems l.cells in
      let i : k ≡ (l.first + k) - l.first = omega arith in
      ap (λ (xs : List ℕ). slice_index xs (l.first + k)) same-slots
      ∙ put-held l.first (values_of s) b.slots within k (omega (arith, e))
      ∙ value-at s k ∙ ap (λ n. (slot_at s n).value) i

  pub slot-before : (k : ℕ) → k < l.first → slice_index (cycled l b).slots k ≡ slice_index b.slots k
  slot-before k lt =
      ap (λ (xs : List ℕ). slice_index xs k) same-slots ∙ put-before l.first (values_of (slots_of l.first b.regs b.mems l.cells)) b.slots within k lt

  pub slot-behind : (k : ℕ) → l.first + length l.cells ≤ k → slice_index (cycled l b).slots k ≡ slice_index b.slots k
  slot-behind k past =
      let e = values-length l.first b.regs b.mems l.cells in
      ap (λ (xs : List ℕ). slice_index xs k) same-slots ∙ put-behind l.first (values_of (slots_of l.first b.regs b.mems l.cells)) b.slots within k (omega (arith, e))

  pub same-shape : SameShape (cycled l b) b
  same-shape =
      let value = value_at l.first (slots_of l.first b.regs b.mems l.cells) in
      record {
        regs = written-regs value l.sets (filled l.first l.cells b);
        mems = written-lengths value l.sets (filled l.first l.cells b);
        slots = ap (λ (xs : List ℕ). length xs) same-slots ∙ put-length l.first (values_of (slots_of l.first b.regs b.mems l.cells)) b.slots within;
      }
