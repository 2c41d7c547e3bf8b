-- Tables of open files row by row.
use Rattle.std.proofs.Common.{◌≡◌, ◌<◌, ◌≤◌, ◌+◌, ◌∙◌, ap, sym, refl, ℕ, zero, suc, Bool, true, false, List, [], ◌∷◌, ◌++◌, append_assoc, length, take, drop, get_or, arith, eq-eqb}
use Rattle.std.specs.Prelude.{Option, Some, None, ◌==◌, nat_lt, not}
use Rattle.std.specs.List.{find, list_any}
use Rattle.std.proofs.lemmas.Bool.Decides.{nat_tests}
use Rattle.std.proofs.lemmas.Grind.{common_steps}
use Rattle.std.proofs.lemmas.List.{at_drop_more, take_more}
use Rattle.vl_base.specs.declared.files.OpenFile.{OpenFile}
use Rattle.vl_base.specs.Files.{descriptor, is_taken, slots, open_file, with_file, at_end, ended_of}
use Rattle.vl_base.proofs.Numbers.{unequal_false as not-equal, lt_true as below, lt_false as not-below}

module _ (table : List OpenFile) (i : ℕ) (x : OpenFile) (l : i < length table) (e : x ≡ get_or table i x) where
  rest : drop i table ≡ x ∷ drop (i + 1) table
  rest = at_drop_more (λ ys. ys) table i x l ∙ ap (λ y. y ∷ drop (i + 1) table) (sym e)

  -- ---- the row of a descriptor
  pub row-here : (fd : ℕ) → descriptor x.slot ≡ fd → open_file (drop i table) fd ≡ Some x
  row-here fd h = let t = eq-eqb (descriptor x.slot) fd h in rw rest (rw t refl)

  pub row-past : (fd : ℕ) → ¬ (descriptor x.slot ≡ fd) → open_file (drop i table) fd ≡ open_file (drop (i + 1) table) fd
  row-past fd h = let t = not-equal (descriptor x.slot) fd h in rw rest (rw t refl)

  -- ---- taken slots
  pub taken-here : (slot : ℕ) → x.slot ≡ slot → is_taken (drop i table) slot ≡ true
  taken-here slot h = let t = eq-eqb x.slot slot h in rw rest (rw t refl)

  pub taken-past : (slot : ℕ) → ¬ (x.slot ≡ slot) → is_taken (drop i table) slot ≡ is_taken (drop (i + 1) table) slot
  taken-past slot h = let t = not-equal x.slot slot h in rw rest (rw t refl)

  -- ---- a new row
  pub file-here : (file : OpenFile) → file.slot < x.slot → with_file file (drop i table) ≡ file ∷ drop i table
  file-here file h = let t = below file.slot x.slot h in rw rest (rw t refl)

  pub file-past : (file : OpenFile) → x.slot ≤ file.slot → take i table ++ with_file file (drop i table) ≡ take (i + 1) table ++ with_file file (drop (i + 1) table)
  file-past file h =
      let t = not-below file.slot x.slot h in
      let k : with_file file (drop i table) ≡ x ∷ with_file file (drop (i + 1) table) = rw rest (rw t refl) in
      let front : take (i + 1) table ≡ take i table ++ x ∷ [] = take_more table i x l ∙ ap (λ y. take i table ++ y ∷ []) (sym e) in
      rw (k, front) (sym (append_assoc (take i table) (x ∷ []) (with_file file (drop (i + 1) table))))

-- ---- the slots

slot-at : (i : ℕ) → i < 16 → get_or slots i i ≡ i
slot-at zero h = refl
slot-at (suc zero) h = refl
slot-at (suc (suc zero)) h = refl
slot-at (suc (suc (suc zero))) h = refl
slot-at (suc (suc (suc (suc zero)))) h = refl
slot-at (suc (suc (suc (suc (suc zero))))) h = refl
slot-at (suc (suc (suc (suc (suc (suc zero)))))) h = refl
slot-at (suc (suc (suc (suc (suc (suc (suc zero))))))) h = refl
slot-at (suc (suc (suc (suc (suc (suc (suc (suc zero)))))))) h = refl
slot-at (suc (suc (suc (suc (suc (suc (suc (suc (suc zero))))))))) h = refl
slot-at (suc (suc (suc (suc (suc (suc (suc (suc (suc (suc zero)))))))))) h = refl
slot-at (suc (suc (suc (suc (suc (suc (suc (suc (suc (suc (suc zero))))))))))) h = refl
slot-at (suc (suc (suc (suc (suc (suc (suc (suc (suc (suc (suc (suc zero)))))))))))) h = refl
slot-at (suc (suc (suc (suc (suc (suc (suc (suc (suc (suc (suc (suc (suc zero))))))))))))) h = refl
slot-at (suc (suc (suc (suc (suc (suc (suc (suc (suc (suc (suc (suc (suc (suc zero)))))))))))))) h = refl
slot-at (suc (suc (suc (suc (suc (suc (suc (suc (suc (suc (suc (suc (suc (suc (suc zero))))))))))))))) h = refl
slot-at (suc (suc (suc (suc (suc (suc (suc (suc (suc (suc (suc (suc (suc (suc (suc (suc n)))))))))))))))) h = absurd (omega (arith, h))

slots-rest : (i : ℕ) → i < 16 → drop i slots ≡ i ∷ drop (i + 1) slots
slots-rest i h = at_drop_more (λ ys. ys) slots i i h ∙ ap (λ y. y ∷ drop (i + 1) slots) (slot-at i h)

pub slot-free : (table : List OpenFile) (i : ℕ) → i < 16 → is_taken table i ≡ false → find (λ slot. not (is_taken table slot)) (drop i slots) ≡ Some i
slot-free table i l h = rw (slots-rest i l) (rw h refl)

pub slot-past : (table : List OpenFile) (i : ℕ) → i < 16 → is_taken table i ≡ true → find (λ slot. not (is_taken table slot)) (drop i slots) ≡ find (λ slot. not (is_taken table slot)) (drop (i + 1) slots)
slot-past table i l h = rw (slots-rest i l) (rw h refl)

pub ruleset tables = (common_steps, row-here, row-past, taken-here, taken-past, file-here, slot-free, slot-past)
