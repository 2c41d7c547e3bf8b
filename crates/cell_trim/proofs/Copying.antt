-- Copies show what they come from.
use Rattle.std.proofs.Common.{◌≡◌, inl, inr, ℕ, ◌+◌, ◌-◌, ◌<◌, ◌≤◌, Bool, true, false, List}
use Rattle.std.proofs.Common.{[], ◌∷◌, ◌++◌, length, map, get_or, refl, sym, ap, ◌∙◌, arith, subst}
use Rattle.std.specs.Prelude.{slice_index, slice_index_or, if◌then◌else◌}
use Rattle.std.specs.List.{AllByRecursion}
use Rattle.std.proofs.lemmas.List.{append-nil, length-map, length_push, get_or_append_left, get_or_default, get_or_past, get_or_push}
use Rattle.std.proofs.lemmas.List.Elements.{recursion_from_All, Contains-get_or}
use Rattle.std.proofs.lemmas.Bool.{cases_lt}
use Rattle.cell_emit.specs.cell_form.specs.Data.{CellData, ListData}
use Rattle.cell_emit.specs.cell_form.specs.Values.{Slot, slot_at, slots_of, cell_slot, operands, found, applied}
use Rattle.cell_emit.specs.cell_form.specs.Sound.{Shape, IsAmong, Makes, IsCell, AreCells}
use Rattle.cell_emit.specs.cell_form.proofs.Slots.{slots-push, slots-length, slots-widths, operand-widths}
use Rattle.cell_emit.specs.cell_form.proofs.Fitting.{cells-before}
use Rattle.cell_emit.specs.Pushes.{Pushed}
use Rattle.cell_emit.proofs.Newest.{pushed-longer}
use Rattle.cell_trim.specs.Marks.{on, Names}
use Rattle.cell_trim.specs.Moves.{number_of, moved}
use Rattle.cell_trim.specs.Copies.{Shows}
use Rattle.cell_trim.proofs.Marking.{apart}
pub use Rattle.cell_emit.specs.vl_base.proofs.Lists.{all_append_left as all-left, all_append_right as all-right}

abbrev widths : List CellData → List ℕ
widths cells = map (λ (c : CellData). c.width) cells

-- ---- slots of a list with one cell more

module _ (first : ℕ) (regs : List ℕ) (mems : List (List ℕ)) (cells : List CellData) (c : CellData) (k : ℕ) where
  slot-before : k < length cells → slot_at (slots_of first regs mems (cells ++ c ∷ [])) k ≡ slot_at (slots_of first regs mems cells) k
  slot-before lt =
      let s = slots_of first regs mems cells in
      ap (λ (ys : List Slot). slot_at ys k) (slots-push first regs mems cells c)
      ∙ get_or_append_left s (cell_slot first regs mems s c ∷ []) (record { value = 0; width = 0 }) k (omega (arith, slots-length first regs mems cells))

  slot-last : length cells ≡ k → slot_at (slots_of first regs mems (cells ++ c ∷ [])) k ≡ cell_slot first regs mems (slots_of first regs mems cells) c
  slot-last e =
      let s = slots_of first regs mems cells in
      ap (λ (ys : List Slot). slot_at ys k) (slots-push first regs mems cells c)
      ∙ get_or_push s (cell_slot first regs mems s c) (record { value = 0; width = 0 }) k (slots-length first regs mems cells ∙ e)

-- the cells that slots name are marked, if they are among the first n
abbrev pub Ready : ℕ → List Bool → ℕ → List ℕ → Type 0
Ready first marks n slots = AllByRecursion (λ a. a - first < n → on marks (a - first) ≡ true) slots

pub ready-from : (first : ℕ) (marks : List Bool) (n : ℕ) (slots : List ℕ) → ((k : ℕ) → k < n → Names first slots k → on marks k ≡ true) →
    Ready first marks n slots
ready-from first marks n slots h =
    recursion_from_All (λ a. a - first < n → on marks (a - first) ≡ true) slots
    (λ k d lt below. h (slice_index_or slots k d - first) below (slice_index_or slots k d, Contains-get_or slots k d lt, refl))

module _ (first next : ℕ) (marks : List Bool) (cells : List CellData) (numbers : List ℕ) (new : List CellData)
    (h : Shows first next marks cells numbers new) where
  abbrev number : ℕ → ℕ
  number a = number_of first numbers (next + length new) a

  -- the number of a marked cell
  number-there : (a : ℕ) → a - first < length cells → number a ≡ get_or numbers (a - first) 0
  number-there a lt = get_or_default numbers (a - first) (next + length new) 0 (omega (arith, h.long))

  number-past : (a : ℕ) → length cells ≤ a - first → number a ≡ next + length new
  number-past a past = get_or_past numbers (a - first) (next + length new) (omega (arith, h.long))

  -- a slot by its new number holds the same
  pub slot-same : (regs : List ℕ) (mems : List (List ℕ)) (a : ℕ) → (a - first < length cells → on marks (a - first) ≡ true) →
      slot_at (slots_of next regs mems new) (number a - next) ≡ slot_at (slots_of first regs mems cells) (a - first)
  slot-same regs mems a ready =
      let fresh = slots_of next regs mems new in
      let old = slots_of first regs mems cells in
      elim (cases_lt (a - first) (length cells)) [
        | inl lt ↦ ap (λ n. slot_at fresh (n - next)) (number-there a lt) ∙ h.same regs mems (a - first) lt (ready lt)
        | inr past ↦ (
            let e = number-past a past in
            let long = slots-length next regs mems new in
            let also = slots-length first regs mems cells in
            get_or_past fresh (number a - next) (record { value = 0; width = 0 }) (omega arith)
            ∙ sym (get_or_past old (a - first) (record { value = 0; width = 0 }) (omega arith)))
      ]

  pub operands-same : (regs : List ℕ) (mems : List (List ℕ)) (args : List ℕ) → Ready first marks (length cells) args →
      operands next (slots_of next regs mems new) (map (number_of first numbers (next + length new)) args)
      ≡ operands first (slots_of first regs mems cells) args
  operands-same regs mems [] ready = refl
  operands-same regs mems (a ∷ args) ready =
      ap (λ x. x ∷ operands next (slots_of next regs mems new) (map (number_of first numbers (next + length new)) args)) (slot-same regs mems a ready.0)
      ∙ ap (λ xs. slot_at (slots_of first regs mems cells) (a - first) ∷ xs) (operands-same regs mems args ready.1)

  pub among : (a : ℕ) → (a - first < length cells → on marks (a - first) ≡ true) → IsAmong first (length cells) a →
      IsAmong next (length new) (number_of first numbers (next + length new) a)
  among a ready k =
      let low = k.0 in
      let high = k.1 in
      let lt : a - first < length cells = omega arith in
      let F : ℕ → Type 0 = λ n. IsAmong next (length new) n in
      subst F (sym (number-there a lt)) (h.there (a - first) lt (ready lt))

  pub all-among : (args : List ℕ) → Ready first marks (length cells) args → AllByRecursion (IsAmong first (length cells)) args →
      AllByRecursion (IsAmong next (length new)) (map (number_of first numbers (next + length new)) args)
  all-among [] ready k = tt
  all-among (a ∷ args) ready k = (among a ready.0 k.0, all-among args ready.1 k.1)

  -- the widths of operands
  widths-same : (args : List ℕ) → Ready first marks (length cells) args →
      map (λ (a : ℕ). slice_index (widths cells) (a - first)) args
      ≡ map (λ (a : ℕ). slice_index (widths new) (a - next)) (map (number_of first numbers (next + length new)) args)
  widths-same args ready =
      let moves = map (number_of first numbers (next + length new)) args in
      let was = slots_of first [] [] cells in
      let is = slots_of next [] [] new in
      ap (λ ws. map (λ (a : ℕ). slice_index ws (a - first)) args) (sym (slots-widths first [] [] cells))
      ∙ sym (operand-widths first was args)
      ∙ ap (λ xs. map (λ (x : Slot). x.width) xs) (sym (operands-same [] [] args ready))
      ∙ operand-widths next is moves
      ∙ ap (λ ws. map (λ (a : ℕ). slice_index ws (a - next)) moves) (slots-widths next [] [] new)

  module _ (c : CellData) (ready : Ready first marks (length cells) c.args) where
    moved-cell : (s : Shape) → IsCell s first (widths cells) c → IsCell s next (widths new) (moved (number_of first numbers (next + length new)) c)
    moved-cell s k =
        let A : ℕ → Type 0 = λ n. AllByRecursion (IsAmong first n) c.args in
        let B : ℕ → Type 0 = λ n. AllByRecursion (IsAmong next n) (map (number_of first numbers (next + length new)) c.args) in
        let M : List ℕ → Type 0 = λ ws. Makes c.op c.width ws in
        record {
          args = subst B (sym (length-map new (λ (x : CellData). x.width))) (all-among c.args ready
              (subst A (length-map cells (λ (x : CellData). x.width)) k.args));
          count = length-map c.args (number_of first numbers (next + length new)) ∙ k.count;
          makes = subst M (widths-same c.args ready) k.makes;
          wide = k.wide;
          narrow = k.narrow;
          names = k.names;
        }

    moved-sound : (s : Shape) → AreCells s first [] (cells ++ c ∷ []) → AreCells s next [] (new ++ moved (number_of first numbers (next + length new)) c ∷ [])
    moved-sound s k =
        let d = moved (number_of first numbers (next + length new)) c in
        let l : ListData = record { first = next; cells = new; sets = [] } in
        let m : ListData = record { first = next; cells = new ++ d ∷ []; sets = [] } in
        let p : Pushed l m (next + length new) d = record { is = refl; slot = refl } in
        let r = cells-before s first [] cells (c ∷ []) k in
        (pushed-longer l m (next + length new) d p (λ (t : Shape). IsCell t next (widths new) d) (λ t has a. has)).sound s (moved-cell s r.1.0) (h.sound s r.0)

    moved-slot : (regs : List ℕ) (mems : List (List ℕ)) →
        cell_slot next regs mems (slots_of next regs mems new) (moved (number_of first numbers (next + length new)) c)
        ≡ cell_slot first regs mems (slots_of first regs mems cells) c
    moved-slot regs mems =
        let F : List Slot → Slot = λ xs. record { value = applied c.op c.width c.low (found c.op regs mems) xs; width = c.width } in
        ap F (operands-same regs mems c.args ready)

  -- the number of a cell that was there, and of the one behind
  pub number-before : (x k : ℕ) → k < length cells → slice_index (numbers ++ x ∷ []) k ≡ slice_index numbers k
  number-before x k lt = get_or_append_left numbers (x ∷ []) 0 k (omega (arith, h.long))

  pub number-last : (x k : ℕ) → length cells ≡ k → slice_index (numbers ++ x ∷ []) k ≡ x
  number-last x k e = get_or_push numbers x 0 k (h.long ∙ e)

  -- a cell that isn't marked
  pub shows-over : (c : CellData) (x : ℕ) → on marks (length cells) ≡ false → Shows first next marks (cells ++ c ∷ []) (numbers ++ x ∷ []) new
  shows-over c x off = record {
    long = (let e = h.long in omega (arith, length_push numbers x, length_push cells c));
    few = (let e = h.few in omega (arith, length_push cells c));
    there = λ k lt here. elim (cases_lt k (length cells)) [
      | inl low ↦ (
          let F : ℕ → Type 0 = λ n. IsAmong next (length new) n in
          subst F (sym (number-before x k low)) (h.there k low here))
      | inr past ↦ (
          let e : length cells ≡ k = omega (arith, length_push cells c) in
          let F : ℕ → Type 0 = λ z. on marks z ≡ false in
          absurd (apart (on marks k) here (subst F e off)))
    ];
    same = λ regs mems k lt here. elim (cases_lt k (length cells)) [
      | inl low ↦
          ap (λ n. slot_at (slots_of next regs mems new) (n - next)) (number-before x k low) ∙ h.same regs mems k low here
          ∙ sym (slot-before first regs mems cells c k low)
      | inr past ↦ (
          let e : length cells ≡ k = omega (arith, length_push cells c) in
          let F : ℕ → Type 0 = λ z. on marks z ≡ false in
          absurd (apart (on marks k) here (subst F e off)))
    ];
    sound = λ s k. h.sound s (cells-before s first [] cells (c ∷ []) k).0;
  }

  -- a cell that is marked
  pub shows-with : (c : CellData) → Ready first marks (length cells) c.args →
      Shows first next marks (cells ++ c ∷ []) (numbers ++ (next + length new) ∷ []) (new ++ moved (number_of first numbers (next + length new)) c ∷ [])
  shows-with c ready =
      let x = next + length new in
      let d = moved (number_of first numbers (next + length new)) c in
      record {
        long = (let e = h.long in omega (arith, length_push numbers x, length_push cells c));
        few = (let e = h.few in omega (arith, length_push new d, length_push cells c));
        there = λ k lt here. elim (cases_lt k (length cells)) [
          | inl low ↦ (
              let F : ℕ → Type 0 = λ n. IsAmong next (length (new ++ d ∷ [])) n in
              let t = h.there k low here in
              let t0 = t.0 in
              let t1 = t.1 in
              subst F (sym (number-before x k low)) (t0, omega (arith, length_push new d)))
          | inr past ↦ (
              let e : length cells ≡ k = omega (arith, length_push cells c) in
              let F : ℕ → Type 0 = λ n. IsAmong next (length (new ++ d ∷ [])) n in
              subst F (sym (number-last x k e)) (omega arith, omega (arith, length_push new d)))
        ];
        same = λ regs mems k lt here. elim (cases_lt k (length cells)) [
          | inl low ↦ (
              let t = h.there k low here in
              let t0 = t.0 in
              let t1 = t.1 in
              ap (λ n. slot_at (slots_of next regs mems (new ++ d ∷ [])) (n - next)) (number-before x k low)
              ∙ slot-before next regs mems new d (slice_index numbers k - next) (omega arith)
              ∙ h.same regs mems k low here
              ∙ sym (slot-before first regs mems cells c k low))
          | inr past ↦ (
              let e : length cells ≡ k = omega (arith, length_push cells c) in
              ap (λ n. slot_at (slots_of next regs mems (new ++ d ∷ [])) (n - next)) (number-last x k e)
              ∙ slot-last next regs mems new d (x - next) (omega arith)
              ∙ moved-slot c ready regs mems
              ∙ sym (slot-last first regs mems cells c k e))
        ];
        sound = λ s k. moved-sound c ready s k;
      }

  -- a cell more, by its mark
  pub shows-more : (c : CellData) (b : Bool) → on marks (length cells) ≡ b → (b ≡ true → Ready first marks (length cells) c.args) →
      Shows first next marks (cells ++ c ∷ []) (numbers ++ (next + length new) ∷ [])
      (new ++ (if b then moved (number_of first numbers (next + length new)) c ∷ [] else []))
  shows-more c true e ready = shows-with c (ready refl)
  shows-more c false e ready =
      let F : List CellData → Type 0 = λ xs. Shows first next marks (cells ++ c ∷ []) (numbers ++ (next + length new) ∷ []) xs in
      subst F (sym (append-nil new)) (shows-over c (next + length new) e)
