-- Numbers and names of files.
use Rattle.std.proofs.Common.{◌≡◌, ◌≢◌, ◌<◌, ◌∙◌, ap, refl, sym, ℕ, zero, suc, Bool, true, false, List, [], ◌∷◌, length, get_or, arith}
use Rattle.std.specs.Prelude.{Some, None, option_map, unwrap_or, is_some, slice_get}
use Rattle.std.specs.Bool.{Decides}
use Rattle.std.specs.List.{AllPairs, find}
use Rattle.std.specs.Str.{bytes_eq}
use Rattle.std.proofs.lemmas.Slice.Eq.{bytes_eq-Decides}
use Rattle.std.proofs.lemmas.List.Quantifiers.{position-Some}
use Rattle.std.proofs.lemmas.Option.{slice_get-get_or}
use Rattle.vl_base.specs.declared.files.File.{File}
use Rattle.vl_base.specs.Files.{contents, number_of, IsFileSet}
use Rattle.vl_base.proofs.FileSets.{contents-found, contents-absent}
use Rattle.ten_files.specs.Tables.{bytes_at, name_at}

blank : File
blank = record { name = []; bytes = [] }

module _ (files : List File) (name : List ℕ) where
  pub number-below : (n : ℕ) → Some n ≡ number_of files name → n < length files
  number-below n e = (position-Some (λ f. bytes_eq f.name name) files n blank (sym e)).0

  pub name_at-number : (n : ℕ) → Some n ≡ number_of files name → name_at files n ≡ name
  name_at-number n e =
      let found = position-Some (λ f. bytes_eq f.name name) files n blank (sym e) in
      ap (λ o. unwrap_or (option_map (λ (f : File). f.name) o) []) (slice_get-get_or files n blank found.0)
      ∙ (bytes_eq-Decides (get_or files n blank).name name).0 found.1

  pub contents-there : (n : ℕ) → Some n ≡ number_of files name → is_some (contents files name) ≡ true
  contents-there n e =
      ap is_some (contents-found files name n e
      ∙ ap (option_map (λ (f : File). f.bytes)) (slice_get-get_or files n blank (number-below n e)))

  pub contents-not_there : None ≡ number_of files name → is_some (contents files name) ≡ false
  contents-not_there e = ap is_some (contents-absent files name e)

-- ---- the file of a number is the one of its name

refuted : {P : Type 0} (b : Bool) → Decides b P → ¬ P → b ≡ false
refuted true d h = absurd (h (d.0 refl))
refuted false d h = refl

different-rest : (f : File) (fs : List File) → AllPairs (λ f g. f.name ≢ g.name) (f ∷ fs) → AllPairs (λ f g. f.name ≢ g.name) fs
different-rest f fs h = λ i j d l m. h (suc i) (suc j) d (omega (arith, l)) (omega (arith, m))

find-own : (files : List File) (n : ℕ) (d : File) → AllPairs (λ f g. f.name ≢ g.name) files → n < length files → find (λ f. bytes_eq f.name (get_or files n d).name) files ≡ Some (get_or files n d)
find-own [] n d h l = absurd (omega (arith, l))
find-own (f ∷ fs) zero d h l = let t = (bytes_eq-Decides f.name f.name).1 refl in rw t refl
find-own (f ∷ fs) (suc n) d h l =
    let apart : f.name ≢ (get_or fs n d).name = h 0 (suc n) d (omega arith) l in
    let t = refuted (bytes_eq f.name (get_or fs n d).name) (bytes_eq-Decides f.name (get_or fs n d).name) apart in
    rw t (find-own fs n d (different-rest f fs h) (omega (arith, l)))

pub bytes_at-number : (files : List File) (n : ℕ) → IsFileSet files → n < length files → option_map (λ f. f.bytes) (slice_get files n) ≡ Some (bytes_at files n)
bytes_at-number files n set l =
    let own = slice_get-get_or files n blank l in
    let named : name_at files n ≡ (get_or files n blank).name
    = ap (λ o. unwrap_or (option_map (λ (f : File). f.name) o) []) own in
    let there : contents files (name_at files n) ≡ Some (get_or files n blank).bytes
    = ap (contents files) named ∙ ap (option_map (λ (f : File). f.bytes)) (find-own files n blank set.different l) in
    ap (option_map (λ (f : File). f.bytes)) own ∙ ap (λ o. Some (unwrap_or o [])) (sym there)
