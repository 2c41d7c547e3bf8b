-- Slots of lists of cells.
use Rattle.std.proofs.Common.{◌≡◌, ℕ, zero, suc, ◌+◌, ◌-◌, ◌≤◌, List, [], ◌∷◌, ◌++◌, length, map, take, drop, refl, sym, ap, ◌∙◌, arith, append_assoc}
use Rattle.std.specs.Prelude.{slice_get, slice_index, Some}
use Rattle.std.proofs.lemmas.List.{append-nil, take_all, take-take, take_at, take-append-drop, length_push, map_push}
use Rattle.cell_form.specs.Data.{CellData}
use Rattle.cell_form.specs.Values.{Slot, slot_at, slots_behind, slots_of, cell_slot, operands}
pub use Rattle.vl_base.proofs.Lists.{get_at_length as get-here}

module _ (first : ℕ) (regs : List ℕ) (mems : List (List ℕ)) where
  pub behind-more : (earlier : List Slot) (xs ys : List CellData) → slots_behind first regs mems earlier (xs ++ ys) ≡ slots_behind first regs mems (slots_behind first regs mems earlier xs) ys
  behind-more earlier [] ys = refl
  behind-more earlier (x ∷ xs) ys = behind-more (earlier ++ cell_slot first regs mems earlier x ∷ []) xs ys

  -- earlier slots stay
  pub behind-begins : (earlier : List Slot) (cs : List CellData) → take (length earlier) (slots_behind first regs mems earlier cs) ≡ earlier
  behind-begins earlier [] = take_all (length earlier) earlier (omega arith)
  behind-begins earlier (c ∷ cs) =
      let x = cell_slot first regs mems earlier c in
      let long : length earlier ≤ length (earlier ++ x ∷ []) = omega (arith, length_push earlier x) in
      sym (take-take (length earlier) (length (earlier ++ x ∷ [])) (slots_behind first regs mems (earlier ++ x ∷ []) cs) long)
      ∙ ap (take (length earlier)) (behind-begins (earlier ++ x ∷ []) cs) ∙ take_at earlier (x ∷ []) (length earlier) refl

  pub behind-length : (earlier : List Slot) (cs : List CellData) → length (slots_behind first regs mems earlier cs) ≡ length earlier + length cs
  behind-length earlier [] = omega arith
  behind-length earlier (c ∷ cs) =
      let x = cell_slot first regs mems earlier c in
      let e = behind-length (earlier ++ x ∷ []) cs in
      omega (arith, e, length_push earlier x)

  pub behind-widths : (earlier : List Slot) (cs : List CellData) → map (λ (x : Slot). x.width) (slots_behind first regs mems earlier cs) ≡ map (λ (x : Slot). x.width) earlier ++ map (λ (c : CellData). c.width) cs
  behind-widths earlier [] = sym (append-nil (map (λ (x : Slot). x.width) earlier))
  behind-widths earlier (c ∷ cs) =
      let x = cell_slot first regs mems earlier c in
      behind-widths (earlier ++ x ∷ []) cs
      ∙ ap (λ ws. ws ++ map (λ (y : CellData). y.width) cs) (map_push (λ (y : Slot). y.width) earlier x)
      ∙ append_assoc (map (λ (y : Slot). y.width) earlier) (c.width ∷ []) (map (λ (y : CellData). y.width) cs)

  -- one cell more
  pub slots-push : (cs : List CellData) (c : CellData) → slots_of first regs mems (cs ++ c ∷ []) ≡ slots_of first regs mems cs ++ cell_slot first regs mems (slots_of first regs mems cs) c ∷ []
  slots-push cs c = behind-more [] cs (c ∷ [])

  pub slots-length : (cs : List CellData) → length (slots_of first regs mems cs) ≡ length cs
  slots-length cs = let e = behind-length [] cs in omega (arith, e)

  pub slots-widths : (cs : List CellData) → map (λ (x : Slot). x.width) (slots_of first regs mems cs) ≡ map (λ (c : CellData). c.width) cs
  slots-widths cs = behind-widths [] cs

  pub slots-stay : (cells more : List CellData) → take (length cells) (slots_of first regs mems (cells ++ more)) ≡ slots_of first regs mems cells
  slots-stay cells more =
      let e = slots-length cells in
      ap (take (length cells)) (behind-more [] cells more)
      ∙ ap (λ n. take n (slots_behind first regs mems (slots_of first regs mems cells) more)) (sym e)
      ∙ behind-begins (slots_of first regs mems cells) more

  pub slot-is : (before after : List CellData) (c : CellData) → slice_get (slots_of first regs mems (before ++ c ∷ after)) (length before) ≡ Some (cell_slot first regs mems (slots_of first regs mems before) c)
  slot-is before after c =
      let earlier = slots_of first regs mems before in
      let x = cell_slot first regs mems earlier c in
      let all = slots_behind first regs mems (earlier ++ x ∷ []) after in
      let n = length (earlier ++ x ∷ []) in
      let split : all ≡ (earlier ++ x ∷ []) ++ drop n all = sym (take-append-drop n all) ∙ ap (λ ys. ys ++ drop n all) (behind-begins (earlier ++ x ∷ []) after) in
      ap (λ ys. slice_get ys (length before)) (behind-more [] before (c ∷ after) ∙ split ∙ append_assoc earlier (x ∷ []) (drop n all))
      ∙ ap (slice_get (earlier ++ x ∷ drop n all)) (sym (slots-length before))
      ∙ get-here earlier x (drop n all)

-- the width of a slot by its number
pub width-at : (xs : List Slot) (k : ℕ) → (slot_at xs k).width ≡ slice_index (map (λ (x : Slot). x.width) xs) k
width-at [] k = refl
width-at (x ∷ xs) zero = refl
width-at (x ∷ xs) (suc k) = width-at xs k

pub operand-widths : (first : ℕ) (earlier : List Slot) (args : List ℕ) → map (λ (x : Slot). x.width) (operands first earlier args) ≡ map (λ (a : ℕ). slice_index (map (λ (x : Slot). x.width) earlier) (a - first)) args
operand-widths first earlier [] = refl
operand-widths first earlier (a ∷ args) =
    let e = width-at earlier (a - first) in
    let r = operand-widths first earlier args in
    cc
