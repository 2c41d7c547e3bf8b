-- What the cells that are left hold and do.
use Rattle.std.proofs.Common.{◌≡◌, inl, inr, ℕ, ◌+◌, ◌-◌, ◌<◌, ◌≤◌, ◌==◌, Bool, true, List, [], ◌∷◌, length, map, set, get_or, refl, sym, ap, ◌∙◌, arith, subst}
use Rattle.std.specs.Prelude.{Contains, slice_index, if◌then◌else◌}
use Rattle.std.specs.List.{AllByRecursion, flat_map}
use Rattle.std.proofs.lemmas.List.{length-map}
use Rattle.cell_emit.specs.cell_form.specs.declared.cell.Cell.{Cell}
use Rattle.cell_emit.specs.cell_form.specs.declared.cell.Write.{Write}
use Rattle.cell_emit.specs.cell_form.specs.declared.cell.Write.TheVariants as w
use Rattle.cell_emit.specs.cell_form.specs.Data.{CellData, ListData, BankData}
use Rattle.cell_emit.specs.cell_form.specs.Values.{Slot, slot_at, slots_of}
use Rattle.cell_emit.specs.cell_form.specs.Cycle.{with_word, wrote, written, value_at}
use Rattle.cell_emit.specs.cell_form.specs.Sound.{Shape, IsAmong, AreCells, IsWrite, IsList}
use Rattle.cell_emit.specs.cell_form.specs.Views.{cell_of}
use Rattle.cell_emit.specs.cell_form.proofs.Slots.{slots-widths, width-at}
use Rattle.cell_emit.specs.Slots.{slot, width_at, IsIn}
use Rattle.cell_trim.specs.Needs.{sources, roots, IsNeeded}
use Rattle.cell_trim.specs.Marks.{on, AreMarked}
use Rattle.cell_trim.specs.Moves.{number_of, moved_write, AreMoved}
use Rattle.cell_trim.specs.Copies.{Shows, AreOwed}
use Rattle.cell_trim.specs.Widths.{IsWithin}
use Rattle.cell_trim.proofs.Marking.{names-past}
use Rattle.cell_trim.proofs.Copying.{Ready, ready-from, all-left, all-right, slot-same, operands-same, among, all-among}
use Rattle.cell_trim.proofs.Owing.{renamed}
use Rattle.cell_emit.specs.vl_base.proofs.Lists.{all_weaker_of as all-weaker}

-- ---- writes with new numbers

wrote-moved : (value number : ℕ → ℕ) (x : Write) (b : BankData) → wrote value (moved_write number x) b ≡ wrote (λ a. value (number a)) x b
wrote-moved value number (w.Reg r a) b = refl
wrote-moved value number (w.Mem m enable word new mask) b = refl

wrote-agree : (value other : ℕ → ℕ) (x : Write) (b : BankData) → AllByRecursion (λ a. value a ≡ other a) (sources x) → wrote value x b ≡ wrote other x b
wrote-agree value other (w.Reg r a) b h = ap (λ v. record b { regs = set b.regs r v }) h.0
wrote-agree value other (w.Mem m enable word new mask) b h =
    ap (λ v. if v == 0 then b else record b { mems = set b.mems m (with_word (get_or b.mems m []) (value word) (value new) (value mask)) }) h.0
    ∙ ap (λ v. if other enable == 0 then b else record b { mems = set b.mems m (with_word (get_or b.mems m []) v (value new) (value mask)) }) h.1.0
    ∙ ap (λ v. if other enable == 0 then b else record b { mems = set b.mems m (with_word (get_or b.mems m []) (other word) v (value mask)) }) h.1.1.0
    ∙ ap (λ v. if other enable == 0 then b else record b { mems = set b.mems m (with_word (get_or b.mems m []) (other word) (other new) v) }) h.1.1.1.0

written-moved : (value other number : ℕ → ℕ) (xs : List Write) (b : BankData) → AllByRecursion (λ a. value (number a) ≡ other a) (flat_map sources xs) →
    written value (map (moved_write number) xs) b ≡ written other xs b
written-moved value other number [] b h = refl
written-moved value other number (x ∷ xs) b h =
    let P : ℕ → Type 0 = λ a. value (number a) ≡ other a in
    written-moved value other number xs (wrote value (moved_write number x) b) (all-right P (sources x) (flat_map sources xs) h)
    ∙ ap (written other xs) (wrote-moved value number x b ∙ wrote-agree (λ a. value (number a)) other x b (all-left P (sources x) (flat_map sources xs) h))

roots-moved : (number : ℕ → ℕ) (sets : List Write) (wanted : List ℕ) →
    roots (map (moved_write number) sets) (map number wanted) ≡ map number (roots sets wanted)
roots-moved number [] wanted = refl
roots-moved number (w.Reg r a ∷ sets) wanted = ap (λ xs. number a ∷ xs) (roots-moved number sets wanted)
roots-moved number (w.Mem m enable word new mask ∷ sets) wanted =
    ap (λ xs. number enable ∷ number word ∷ number new ∷ number mask ∷ xs) (roots-moved number sets wanted)

-- ---- the list that is left

-- a list and slots that come from cells, writes and wanted slots
pub record Trims (old next : ℕ) (cells : List CellData) (sets : List Write) (wanted : List ℕ) (new : ListData) (slots : List ℕ) : Type 0 where
  pub marks : List Bool
  pub numbers : List ℕ
  pub kept : List CellData
  pub needs : AreMarked old cells (roots sets wanted) marks
  pub shows : Shows old next marks cells numbers kept
  pub owed : AreOwed old next (length cells) (roots sets wanted) marks cells numbers kept
  pub moves : AreMoved (number_of old numbers (next + length kept)) next kept sets wanted new slots

pub trims-from : (old next : ℕ) (list cells kept : List Cell) (sets : List Write) (wanted : List ℕ) (given marks : List Bool) (numbers : List ℕ)
    (new : ListData) (slots : List ℕ) →
    list ≡ cells → given ≡ marks → AreMarked old (map cell_of list) (roots sets wanted) marks →
    Shows old next given (map cell_of list) numbers (map cell_of kept) →
    ((xs : List ℕ) → AreMarked old (map cell_of list) xs given → AreOwed old next (length list) xs given (map cell_of list) numbers (map cell_of kept)) →
    AreMoved (number_of old numbers (next + length kept)) next (map cell_of kept) sets wanted new slots →
    Trims old next (map cell_of cells) sets wanted new slots
trims-from old next list cells kept sets wanted given marks numbers new slots same as_given needs shows owed moves =
    let F : List Cell → Type 0 = λ xs. Trims old next (map cell_of xs) sets wanted new slots in
    let G : List Bool → Type 0 = λ ms. AreMarked old (map cell_of list) (roots sets wanted) ms in
    let O : ℕ → Type 0 = λ n. AreOwed old next n (roots sets wanted) given (map cell_of list) numbers (map cell_of kept) in
    let M : ℕ → Type 0 = λ n. AreMoved (number_of old numbers (next + n)) next (map cell_of kept) sets wanted new slots in
    let marked = subst G (sym as_given) needs in
    subst F same (record {
      marks = given;
      numbers = numbers;
      kept = map cell_of kept;
      needs = marked;
      shows = shows;
      owed = subst O (sym (length-map list cell_of)) (owed (roots sets wanted) marked);
      moves = subst M (sym (length-map kept cell_of)) moves;
    })

module _ (old next : ℕ) (cells : List CellData) (sets : List Write) (wanted : List ℕ) (new : ListData) (slots : List ℕ)
    (t : Trims old next cells sets wanted new slots) where
  abbrev left : ListData
  left = record { first = next; cells = t.kept; sets = map (moved_write (number_of old t.numbers (next + length t.kept))) sets }

  -- what holds of this list holds of the new one
  so : (F : ListData → List ℕ → Type 0) → F left (map (number_of old t.numbers (next + length t.kept)) wanted) → F new slots
  so F h =
      let G : ListData → Type 0 = λ l. F l (map (number_of old t.numbers (next + length t.kept)) wanted) in
      let H : List ℕ → Type 0 = λ xs. F new xs in
      subst H (sym t.moves.found) (subst G (sym t.moves.list) h)

  ready : Ready old t.marks (length cells) (roots sets wanted)
  ready = ready-from old t.marks (length cells) (roots sets wanted) t.needs.named

  ready-sets : Ready old t.marks (length cells) (flat_map sources sets)
  ready-sets = all-left (λ a. a - old < length cells → on t.marks (a - old) ≡ true) (flat_map sources sets) wanted ready

  ready-wanted : Ready old t.marks (length cells) wanted
  ready-wanted = all-right (λ a. a - old < length cells → on t.marks (a - old) ≡ true) (flat_map sources sets) wanted ready

  pub trims-first : new.first ≡ next
  trims-first = so (λ l xs. l.first ≡ next) refl

  pub trims-few : length new.cells ≤ length cells
  trims-few = so (λ l xs. length l.cells ≤ length cells) t.shows.few

  pub trims-there : AllByRecursion (IsAmong old (length cells)) wanted → AllByRecursion (IsIn new) slots
  trims-there h = so (λ l xs. AllByRecursion (IsIn l) xs) (all-among old next t.marks cells t.numbers t.kept t.shows wanted ready-wanted h)

  left-values : (b : BankData) (l : ListData) → l.first ≡ old → l.cells ≡ cells →
      map (slot b left) (map (number_of old t.numbers (next + length t.kept)) wanted) ≡ map (slot b l) wanted
  unfolding slot
  left-values b l e k =
      operands-same old next t.marks cells t.numbers t.kept t.shows b.regs b.mems wanted ready-wanted
      ∙ ap (λ cs. map (λ a. slot_at (slots_of old b.regs b.mems cs) (a - old)) wanted) (sym k)
      ∙ ap (λ z. map (λ a. slot_at (slots_of z b.regs b.mems l.cells) (a - z)) wanted) (sym e)

  pub trims-values : (b : BankData) (l : ListData) → l.first ≡ old → l.cells ≡ cells → map (slot b new) slots ≡ map (slot b l) wanted
  trims-values b l e k = so (λ m xs. map (slot b m) xs ≡ map (slot b l) wanted) (left-values b l e k)

  pub trims-writes : (b c : BankData) →
      written (value_at next (slots_of next b.regs b.mems new.cells)) new.sets c ≡ written (value_at old (slots_of old b.regs b.mems cells)) sets c
  trims-writes b c =
      let value = value_at next (slots_of next b.regs b.mems t.kept) in
      let other = value_at old (slots_of old b.regs b.mems cells) in
      let renumber = number_of old t.numbers (next + length t.kept) in
      let P : ℕ → Type 0 = λ a. a - old < length cells → on t.marks (a - old) ≡ true in
      let Q : ℕ → Type 0 = λ a. value (renumber a) ≡ other a in
      so (λ m xs. written (value_at next (slots_of next b.regs b.mems m.cells)) m.sets c ≡ written other sets c)
      (written-moved value other renumber sets c
      (all-weaker P Q (flat_map sources sets) (λ a h. ap (λ (x : Slot). x.value)
      (slot-same old next t.marks cells t.numbers t.kept t.shows b.regs b.mems a h)) ready-sets))

  left-writes : (s : Shape) (xs : List Write) → Ready old t.marks (length cells) (flat_map sources xs) → AllByRecursion (IsWrite s old (length cells)) xs →
      AllByRecursion (IsWrite s next (length t.kept)) (map (moved_write (number_of old t.numbers (next + length t.kept))) xs)
  left-writes s [] r h = tt
  left-writes s (w.Reg k a ∷ xs) r h =
      ((h.0.0, among old next t.marks cells t.numbers t.kept t.shows a r.0 h.0.1), left-writes s xs r.1 h.1)
  left-writes s (w.Mem m enable word value mask ∷ xs) r h =
      let there = among old next t.marks cells t.numbers t.kept t.shows in
      ((h.0.0, there enable r.0 h.0.1, there word r.1.0 h.0.2, there value r.1.1.0 h.0.3, there mask r.1.1.1.0 h.0.4), left-writes s xs r.1.1.1.1 h.1)

  pub trims-sound : (s : Shape) → AreCells s old [] cells → AllByRecursion (IsWrite s old (length cells)) sets → next + length new.cells ≤ s.slots →
      IsList s new
  trims-sound s h k le =
      so (λ l xs. next + length l.cells ≤ s.slots → IsList s l)
      (λ fits. record { cells = t.shows.sound s h; sets = left-writes s sets ready-sets k; slots = fits }) le

  -- a slot by its new number is as wide
  same-width : (l : ListData) → l.first ≡ old → l.cells ≡ cells → (a : ℕ) → (a - old < length cells → on t.marks (a - old) ≡ true) →
      width_at left (number_of old t.numbers (next + length t.kept) a) ≡ width_at l a
  same-width l e k a h =
      let was = slots_of old [] [] cells in
      let is = slots_of next [] [] t.kept in
      let b = number_of old t.numbers (next + length t.kept) a in
      ap (λ ws. slice_index ws (b - next)) (sym (slots-widths next [] [] t.kept))
      ∙ sym (width-at is (b - next))
      ∙ ap (λ (x : Slot). x.width) (slot-same old next t.marks cells t.numbers t.kept t.shows [] [] a h)
      ∙ width-at was (a - old)
      ∙ ap (λ ws. slice_index ws (a - old)) (slots-widths old [] [] cells)
      ∙ ap (λ (cs : List CellData). slice_index (map (λ (c : CellData). c.width) cs) (a - old)) (sym k)
      ∙ ap (λ z. slice_index (map (λ (c : CellData). c.width) l.cells) (a - z)) (sym e)

  left-widths : (most : ℕ → ℕ) (l : ListData) → l.first ≡ old → l.cells ≡ cells → (xs : List Write) → Ready old t.marks (length cells) (flat_map sources xs) →
      AllByRecursion (IsWithin most l) xs → AllByRecursion (IsWithin most left) (map (moved_write (number_of old t.numbers (next + length t.kept))) xs)
  left-widths most l e k [] r h = tt
  left-widths most l e k (w.Reg q a ∷ xs) r h =
      (subst (λ n. n ≤ most q) (sym (same-width l e k a r.0)) h.0, left-widths most l e k xs r.1 h.1)
  left-widths most l e k (w.Mem m enable word value mask ∷ xs) r h = (tt, left-widths most l e k xs r.1.1.1.1 h.1)

  pub trims-widths : (most : ℕ → ℕ) (l : ListData) → l.first ≡ old → l.cells ≡ cells → AllByRecursion (IsWithin most l) sets →
      AllByRecursion (IsWithin most new) new.sets
  trims-widths most l e k h = so (λ m xs. AllByRecursion (IsWithin most m) m.sets) (left-widths most l e k sets ready-sets h)

  pub trims-needed : (i : ℕ) → i < length new.cells → IsNeeded new slots i
  trims-needed =
      let renumber = number_of old t.numbers (next + length t.kept) in
      so (λ l xs. (i : ℕ) → i < length l.cells → IsNeeded l xs i)
      (λ i lt.
      let o = t.owed i lt in
      let F : List ℕ → Type 0 = λ xs. Contains xs (next + i) in
      let G : ℕ → Type 0 = λ z. Contains (map renumber (roots sets wanted)) z in
      elim o.3 [
        | inl op ↦ inl op
        | inr d ↦ elim d [
          | inl m ↦ (
              let below = o.1 in
              let long = t.shows.long in
              inr (subst F (sym (roots-moved renumber sets wanted)) (subst G o.2 (renamed old next t.numbers (roots sets wanted) (next + length t.kept) o.0
              (omega arith) m))))
          | inr u ↦ absurd (names-past old o.0 cells u.0 u.1 u.3)
        ]
      ])
