-- The open files of rows, slot by slot.
use Rattle.std.proofs.Common.{◌≡◌, ◌≢◌, ◌<◌, ◌≤◌, ◌+◌, ◌∙◌, ap, sym, refl, ℕ, zero, suc, true, false, List, [], ◌∷◌, length, get_or, set, arith, eq-eqb}
use Rattle.std.specs.Prelude.{Option, Some, None, ◌==◌, nat_lt, is_some, option_map, slice_get}
use Rattle.std.specs.List.{AllByRecursion}
use Rattle.std.proofs.lemmas.Bool.Decides.{nat_tests}
use Rattle.std.proofs.lemmas.List.{get_or-set_same, length-set, set-set}
use Rattle.std.proofs.lemmas.Option.{slice_get-get_or}
use Rattle.vl_base.specs.declared.files.File.{File}
use Rattle.vl_base.specs.declared.files.OpenFile.{OpenFile}
use Rattle.vl_base.specs.Files.{descriptor, is_taken, open_file, with_file, with_row, closed}
use Rattle.ten_files.specs.declared.row.Row.{Row}
use Rattle.ten_files.specs.Tables.{open_row, open_from}
use Rattle.vl_base.proofs.Numbers.{unequal_false as not-equal, lt_true as below, lt_false as not-below}

-- ---- a slot and higher ones

-- all slots are above this one
abbrev Above : ℕ → List OpenFile → Type 0
Above s files = AllByRecursion (λ f. s < f.slot) files

with_file-above : (file : OpenFile) (xs : List OpenFile) → Above file.slot xs → with_file file xs ≡ file ∷ xs
with_file-above file [] h = refl
with_file-above file (f ∷ fs) h = let t = below file.slot f.slot h.0 in rw t refl

closed-above : (s : ℕ) (xs : List OpenFile) → Above s xs → closed xs (descriptor s) ≡ xs
closed-above s [] h = refl
closed-above s (f ∷ fs) h =
    let t = not-equal (descriptor f.slot) (descriptor s) (λ e. omega (arith, h.0, e)) in
    rw t (ap (λ xs. f ∷ xs) (closed-above s fs h.1))

with_row-above : (file : OpenFile) (xs : List OpenFile) → Above file.slot xs → with_row file xs ≡ xs
with_row-above file [] h = refl
with_row-above file (f ∷ fs) h =
    let t = not-equal f.slot file.slot (λ e. omega (arith, h.0, e)) in
    rw t (ap (λ xs. f ∷ xs) (with_row-above file fs h.1))

open_file-above : (s : ℕ) (xs : List OpenFile) → Above s xs → open_file xs (descriptor s) ≡ None
open_file-above s [] h = refl
open_file-above s (f ∷ fs) h =
    let t = not-equal (descriptor f.slot) (descriptor s) (λ e. omega (arith, h.0, e)) in
    rw t (open_file-above s fs h.1)

taken-above : (s : ℕ) (xs : List OpenFile) → Above s xs → is_taken xs s ≡ false
taken-above s [] h = refl
taken-above s (f ∷ fs) h =
    let t = not-equal f.slot s (λ e. omega (arith, h.0, e)) in rw t (taken-above s fs h.1)

module _ (files : List File) where
  above : (s n : ℕ) (rows : List (Option Row)) → s < n → Above s (open_from files n rows)
  above s n [] h = tt
  above s n (None ∷ rows) h = above s (n + 1) rows (omega (arith, h))
  above s n (Some x ∷ rows) h = (h, above s (n + 1) rows (omega (arith, h)))

  -- ---- what is found at a slot, the place i behind that of the first row

  pub taken-at : (rows : List (Option Row)) (n i s : ℕ) → s ≡ n + i → i < length rows → is_taken (open_from files n rows) s ≡ is_some (get_or rows i None)
  taken-at [] n i s e l = absurd (omega (arith, l))
  taken-at (None ∷ rows) n zero s e l =
      taken-above s (open_from files (n + 1) rows) (above s (n + 1) rows (omega (arith, e)))
  taken-at (Some x ∷ rows) n zero s e l = let t = eq-eqb n s (omega (arith, e)) in rw t refl
  taken-at (None ∷ rows) n (suc i) s e l = taken-at rows (n + 1) i s (omega (arith, e)) (omega (arith, l))
  taken-at (Some x ∷ rows) n (suc i) s e l =
      let t = not-equal n s (λ f. omega (arith, e, f)) in
      rw t (taken-at rows (n + 1) i s (omega (arith, e)) (omega (arith, l)))

  pub open_file-at : (rows : List (Option Row)) (n i s : ℕ) → s ≡ n + i → i < length rows → open_file (open_from files n rows) (descriptor s) ≡ option_map (open_row files s) (get_or rows i None)
  open_file-at [] n i s e l = absurd (omega (arith, l))
  open_file-at (None ∷ rows) n zero s e l =
      open_file-above s (open_from files (n + 1) rows) (above s (n + 1) rows (omega (arith, e)))
  open_file-at (Some x ∷ rows) n zero s e l =
      let q : n ≡ s = omega (arith, e) in
      let t = eq-eqb (descriptor n) (descriptor s) (ap descriptor q) in
      rw t (ap (λ k. Some (open_row files k x)) q)
  open_file-at (None ∷ rows) n (suc i) s e l = open_file-at rows (n + 1) i s (omega (arith, e)) (omega (arith, l))
  open_file-at (Some x ∷ rows) n (suc i) s e l =
      let t = not-equal (descriptor n) (descriptor s) (λ f. omega (arith, e, f)) in
      rw t (open_file-at rows (n + 1) i s (omega (arith, e)) (omega (arith, l)))

  -- ---- a row is written there

  -- an open one
  pub row-again : (rows : List (Option Row)) (n i s : ℕ) (x r : Row) → s ≡ n + i → slice_get rows i ≡ Some (Some x) → open_from files n (set rows i (Some r)) ≡ with_row (open_row files s r) (open_from files n rows)
  row-again [] n i s x r e g = absurd (cc)
  row-again (None ∷ rows) n zero s x r e g = absurd (cc)
  row-again (Some y ∷ rows) n zero s x r e g =
      let q : n ≡ s = omega (arith, e) in
      let t = eq-eqb n s q in
      let k = with_row-above (open_row files s r) (open_from files (n + 1) rows) (above s (n + 1) rows (omega (arith, e))) in
      rw (t, k) (ap (λ k. open_row files k r ∷ open_from files (n + 1) rows) q)
  row-again (None ∷ rows) n (suc i) s x r e g = row-again rows (n + 1) i s x r (omega (arith, e)) g
  row-again (Some y ∷ rows) n (suc i) s x r e g =
      let t = not-equal n s (λ f. omega (arith, e, f)) in
      rw t (ap (λ xs. open_row files n y ∷ xs) (row-again rows (n + 1) i s x r (omega (arith, e)) g))

  -- one that wasn't open
  pub row-new : (rows : List (Option Row)) (n i s : ℕ) (r : Row) → s ≡ n + i → slice_get rows i ≡ Some None → open_from files n (set rows i (Some r)) ≡ with_file (open_row files s r) (open_from files n rows)
  row-new [] n i s r e g = absurd (cc)
  row-new (Some y ∷ rows) n zero s r e g = absurd (cc)
  row-new (None ∷ rows) n zero s r e g =
      let q : n ≡ s = omega (arith, e) in
      let k = with_file-above (open_row files s r) (open_from files (n + 1) rows) (above s (n + 1) rows (omega (arith, e))) in
      rw k (ap (λ k. open_row files k r ∷ open_from files (n + 1) rows) q)
  row-new (None ∷ rows) n (suc i) s r e g = row-new rows (n + 1) i s r (omega (arith, e)) g
  row-new (Some y ∷ rows) n (suc i) s r e g =
      let t = not-below s n (omega (arith, e)) in
      rw t (ap (λ xs. open_row files n y ∷ xs) (row-new rows (n + 1) i s r (omega (arith, e)) g))

  -- none
  pub row-none : (rows : List (Option Row)) (n i s : ℕ) → s ≡ n + i → i < length rows → open_from files n (set rows i None) ≡ closed (open_from files n rows) (descriptor s)
  row-none [] n i s e l = absurd (omega (arith, l))
  row-none (None ∷ rows) n zero s e l =
      sym (closed-above s (open_from files (n + 1) rows) (above s (n + 1) rows (omega (arith, e))))
  row-none (Some x ∷ rows) n zero s e l =
      let q : n ≡ s = omega (arith, e) in
      let t = eq-eqb (descriptor n) (descriptor s) (ap descriptor q) in
      rw t (sym (closed-above s (open_from files (n + 1) rows) (above s (n + 1) rows (omega (arith, e)))))
  row-none (None ∷ rows) n (suc i) s e l = row-none rows (n + 1) i s (omega (arith, e)) (omega (arith, l))
  row-none (Some x ∷ rows) n (suc i) s e l =
      let t = not-equal (descriptor n) (descriptor s) (λ f. omega (arith, e, f)) in
      rw t (ap (λ xs. open_row files n x ∷ xs) (row-none rows (n + 1) i s (omega (arith, e)) (omega (arith, l))))

  -- one, open or not
  pub row-set : (rows : List (Option Row)) (n i s : ℕ) (r : Row) → s ≡ n + i → i < length rows → open_from files n (set rows i (Some r)) ≡ with_file (open_row files s r) (closed (open_from files n rows) (descriptor s))
  row-set rows n i s r e l =
      let there : i < length (set rows i None) = omega (arith, length-set rows i None) in
      let free : slice_get (set rows i None) i ≡ Some None
      = slice_get-get_or (set rows i None) i None there ∙ ap (λ row. Some row) (get_or-set_same rows i None None l) in
      ap (open_from files n) (sym (set-set rows i None (Some r)))
      ∙ row-new (set rows i None) n i s r e free
      ∙ ap (with_file (open_row files s r)) (row-none rows n i s e l)

  -- ---- a descriptor of no slot

  pub open_file-past : (rows : List (Option Row)) (n fd : ℕ) → n + length rows ≤ 16 → ((slot : ℕ) → slot < 16 → descriptor slot ≢ fd) → open_file (open_from files n rows) fd ≡ None
  open_file-past [] n fd l h = refl
  open_file-past (None ∷ rows) n fd l h = open_file-past rows (n + 1) fd (omega (arith, l)) h
  open_file-past (Some x ∷ rows) n fd l h =
      let t = not-equal (descriptor n) fd (h n (omega (arith, l))) in
      rw t (open_file-past rows (n + 1) fd (omega (arith, l)) h)

  pub closed-past : (rows : List (Option Row)) (n fd : ℕ) → n + length rows ≤ 16 → ((slot : ℕ) → slot < 16 → descriptor slot ≢ fd) → open_from files n rows ≡ closed (open_from files n rows) fd
  closed-past [] n fd l h = refl
  closed-past (None ∷ rows) n fd l h = closed-past rows (n + 1) fd (omega (arith, l)) h
  closed-past (Some x ∷ rows) n fd l h =
      let t = not-equal (descriptor n) fd (h n (omega (arith, l))) in
      rw t (ap (λ xs. open_row files n x ∷ xs) (closed-past rows (n + 1) fd (omega (arith, l)) h))
