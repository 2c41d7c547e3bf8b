-- Open files in the order of their slots, opened one by one.
use Rattle.std.proofs.Common.{◌≡◌, ◌<◌, ◌≤◌, ◌+◌, ℕ, zero, suc, false, List, [], ◌∷◌, length, take, get_or, Some, refl, sym, ap, ◌∙◌, subst, arith}
use Rattle.std.specs.Prelude.{◌==◌, nat_lt, unwrap_or, None}
use Rattle.std.proofs.lemmas.Bool.Decides.{nat_tests}
use Rattle.vl_eval.specs.vl_base.specs.declared.files.File.{File}
use Rattle.vl_eval.specs.vl_base.specs.declared.files.OpenFile.{OpenFile}
use Rattle.vl_eval.specs.vl_base.specs.Files.{closed, contents, descriptor, number_of, with_file}
use Rattle.vl_eval.specs.vl_design.specs.Laws.{AreOpenFrom, IsOpenIn}
use Rattle.vl_run.specs.ten_files.specs.Tables.{bytes_at, open_row, row_of}
use Rattle.vl_run.specs.ten_files.proofs.Names.{name_at-number, contents-not_there}

module _ (files : List File) where
  -- ---- one file

  pub there : (f : OpenFile) → IsOpenIn files f → None ≡ number_of files f.name → ⊥
  there f h e = let a = h.there in let b = contents-not_there files f.name e in let z : ⊥ = cc in z

  pub row-is : (f : OpenFile) (n : ℕ) → Some n ≡ number_of files f.name → open_row files f.slot (row_of (n, f.place, f.ended)) ≡ f
  row-is f n e = ap {A = List ℕ} {B = OpenFile} (λ x. record { slot = f.slot; name = x; place = f.place; ended = f.ended }) (name_at-number files f.name n e)

  pub place-within : (f : OpenFile) (n : ℕ) → IsOpenIn files f → Some n ≡ number_of files f.name → f.place ≤ length (bytes_at files n)
  place-within f n h e =
      let named = name_at-number files f.name n e in
      subst (λ (x : List ℕ). f.place ≤ length (unwrap_or (contents files x) [])) (sym named) h.within

  -- ---- in order

  pub open-at : (n : ℕ) (xs : List OpenFile) (i : ℕ) (x : OpenFile) → AreOpenFrom files n xs → i < length xs → x ≡ get_or xs i x → IsOpenIn files x
  open-at n [] i x h l e = absurd (omega (arith, l))
  open-at n (y ∷ ys) zero x h l e = subst (IsOpenIn files) (sym e) h.1
  open-at n (y ∷ ys) (suc i) x h l e = open-at (y.slot + 1) ys i x h.2 (omega (arith, l)) e

  slot-from : (n : ℕ) (xs : List OpenFile) (i : ℕ) (x : OpenFile) → AreOpenFrom files n xs → i < length xs → x ≡ get_or xs i x → n ≤ x.slot
  slot-from n [] i x h l e = absurd (omega (arith, l))
  slot-from n (y ∷ ys) zero x h l e = let same = ap (λ (f : OpenFile). f.slot) e in let from = h.0 in omega (arith, same, from)
  slot-from n (y ∷ ys) (suc i) x h l e = let k = slot-from (y.slot + 1) ys i x h.2 (omega (arith, l)) e in let from = h.0 in omega (arith, k, from)

  other-slot : (a b : ℕ) → a < b → (descriptor a == descriptor b) ≡ false
  other-slot a b h = grind (arith, nat_tests)

  not-before : (a b : ℕ) → a < b → nat_lt b a ≡ false
  not-before a b h = grind (arith, nat_tests)

  kept : (y x : OpenFile) (ys : List OpenFile) → y.slot < x.slot → closed (y ∷ ys) (descriptor x.slot) ≡ y ∷ closed ys (descriptor x.slot)
  kept y x ys h = let e = other-slot y.slot x.slot h in rw e refl

  behind : (y x : OpenFile) (ys : List OpenFile) → y.slot < x.slot → with_file x (y ∷ ys) ≡ y ∷ with_file x ys
  behind y x ys h = let e = not-before y.slot x.slot h in rw e refl

  -- the next one stands behind those so far
  pub next-open : (n : ℕ) (xs : List OpenFile) (i : ℕ) (x : OpenFile) → AreOpenFrom files n xs → i < length xs → x ≡ get_or xs i x →
      with_file x (closed (take i xs) (descriptor x.slot)) ≡ take (suc i) xs
  next-open n [] i x h l e = absurd (omega (arith, l))
  next-open n (y ∷ ys) zero x h l e = ap (λ f. f ∷ []) e
  next-open n (y ∷ ys) (suc i) x h l e =
      let from = slot-from (y.slot + 1) ys i x h.2 (omega (arith, l)) e in
      let before : y.slot < x.slot = omega (arith, from) in
      ap (with_file x) (kept y x (take i ys) before)
      ∙ (behind y x (closed (take i ys) (descriptor x.slot)) before ∙ ap (λ fs. y ∷ fs) (next-open (y.slot + 1) ys i x h.2 (omega (arith, l)) e))
