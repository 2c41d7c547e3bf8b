-- The script of the demonstration has a reading, and what is read for it is there.
use Rattle.std.specs.Prelude.{if◌then◌else◌, Ok, Err, Some}
use Rattle.std.proofs.Common.{◌≡◌, ℕ, zero, suc, ◌≤◌, ◌+◌, ◌==◌, Bool, true, false, List, [], ◌∷◌, ◌++◌, length, None, refl, sym, ap, ◌∙◌, subst, append_assoc, append-nil, arith}
use Rattle.std.specs.List.{slice_split, slice_get, flat_map, AllByRecursion}
use Rattle.std.specs.Str.{bytes_eq}
use Rattle.std.proofs.lemmas.Fmt.{length-decimal-le}
use Rattle.std.proofs.lemmas.Slice.Eq.{bytes_eq-Decides}
use Rattle.std.proofs.lemmas.List.{length-append}
use Rattle.std.proofs.lemmas.List.Sums.{fold-append}
use Rattle.host_files.specs.fab_io.specs.Outside.{Files, with_file}
use Rattle.host_text.specs.Statements.{says}
use Rattle.host_text.specs.Words.{lines, without_empty_rest}
use Rattle.host_text.specs.declared.script.FileLine.{FileLine}
use Rattle.host_text.specs.declared.script.TenantLine.{TenantLine}
use Rattle.host_text.specs.declared.script.Script.{Script}
use Rattle.host_text.specs.Reading.{with_said, script_of, fault_or, first_fault, is_bare, reading, reading_of}
use Rattle.host_text.specs.Scripts.{nothing}
use Rattle.host_files.specs.Reading.{IsAvailable, source, file, snapshot}
use Rattle.host_files.specs.Steps.{IsWithin}
use Rattle.host_demo.specs.Texts as t
use Rattle.host_demo.specs.Sources.{files_of, name_of}
use Rattle.host_demo.proofs.Expected.{fabric_lines, lines_of, tenant_lines, fabrics, tenant_line, tenants, expected, AreClean, after}
use Rattle.host_demo.proofs.Nexts.{next}
use Rattle.host_text.specs.vl_base.proofs.Lists.{all_push as push-each}

-- ---- the lines

abbrev split : List ℕ → List (List ℕ)
split bytes = slice_split (λ b. b == 10) bytes

tenants-split : (n : ℕ) → n ≤ 32 → (rest : List ℕ) → split (t.tenants n ++ rest) ≡ tenant_lines n ++ split rest
tenants-split zero l rest = refl
tenants-split (suc n) l rest =
    ap split (append_assoc (t.tenants n) (t.tenant (suc n)) rest) ∙ tenants-split n (omega (arith, l)) (t.tenant (suc n) ++ rest)
    ∙ ap (λ ls. tenant_lines n ++ ls) ((next n (omega (arith, l))).split rest) ∙ sym (append_assoc (tenant_lines n) (lines_of (suc n)) (split rest))

without-rest : (ls : List (List ℕ)) → without_empty_rest (ls ++ [] ∷ []) ≡ ls
without-rest [] = refl
without-rest (l ∷ []) = refl
without-rest (l ∷ m ∷ ls) = ap (λ ks. l ∷ ks) (without-rest (m ∷ ls))

script-lines : (n : ℕ) → n ≤ 32 → lines (t.script n) ≡ fabric_lines ++ tenant_lines n
script-lines n l =
    ap (λ ls. without_empty_rest (fabric_lines ++ ls)) (ap split (sym (append-nil (t.tenants n))) ∙ tenants-split n l [])
    ∙ without-rest (fabric_lines ++ tenant_lines n)

-- ---- none has a cause

clean-both : (s : Script) (xs ys : List (List ℕ)) → AreClean s xs → AreClean (after s xs) ys → AreClean s (xs ++ ys)
clean-both s [] ys h g = g
clean-both s (x ∷ xs) ys h g = (h.0, clean-both (with_said s (says x)) xs ys h.1 g)

tenants-after : (n : ℕ) → n ≤ 32 → after fabrics (tenant_lines n) ≡ expected n
tenants-after zero l = refl
tenants-after (suc n) l =
    fold-append (λ s x. with_said s (says x)) fabrics (tenant_lines n) (lines_of (suc n)) ∙ ap (λ s. after s (lines_of (suc n))) (tenants-after n (omega (arith, l)))
    ∙ (next n (omega (arith, l))).declared

tenants-clean : (n : ℕ) → n ≤ 32 → AreClean fabrics (tenant_lines n)
tenants-clean zero l = tt
tenants-clean (suc n) l =
    clean-both fabrics (tenant_lines n) (lines_of (suc n)) (tenants-clean n (omega (arith, l)))
    (subst (λ s. AreClean s (lines_of (suc n))) (sym (tenants-after n (omega (arith, l)))) (next n (omega (arith, l))).clean)

none-of : (above ls : List (List ℕ)) → AreClean (script_of above) ls → first_fault above ls ≡ None
none-of above [] h = refl
none-of above (l ∷ ls) h =
    ap (λ c. fault_or (length above + 1) c (first_fault (above ++ l ∷ []) ls)) h.0
    ∙ none-of (above ++ l ∷ []) ls (subst (λ s. AreClean s ls) (sym (fold-append (λ s x. with_said s (says x)) nothing above (l ∷ []))) h.1)

all-after : (n : ℕ) → n ≤ 32 → script_of (fabric_lines ++ tenant_lines n) ≡ expected n
all-after n l = tenants-after n l

all-clean : (n : ℕ) → n ≤ 32 → AreClean nothing (fabric_lines ++ tenant_lines n)
all-clean n l = (refl, (refl, tenants-clean n l))

-- ---- the reading

whole : (n : ℕ) → 1 ≤ n → n ≤ 32 → is_bare (expected n) ≡ false
whole zero l m = absurd (omega (arith, l))
whole (suc n) l m = (next n (omega (arith, m))).whole

read : (ls : List (List ℕ)) (s : Script) → first_fault [] ls ≡ None → script_of ls ≡ s → is_bare s ≡ false → reading_of ls (first_fault [] ls) ≡ Ok s
read ls s none is full =
    ap (reading_of ls) none ∙ ap (λ b. if b then Err (length ls + 1, 9) else Ok (script_of ls)) (ap is_bare is ∙ full) ∙ ap Ok is

pub reads : (n : ℕ) → 1 ≤ n → n ≤ 32 → reading (t.script n) ≡ Ok (expected n)
reads n l m =
    ap (λ ls. reading_of ls (first_fault [] ls)) (script-lines n m)
    ∙ read (fabric_lines ++ tenant_lines n) (expected n) (none-of [] (fabric_lines ++ tenant_lines n) (all-clean n m)) (all-after n m) (whole n l m)

-- ---- what is read for it

-- a tenant has a source among these files, no file and no snapshot
record IsSupplied (files : Files) (x : TenantLine) : Type 0 where
  told : IsWithin files x.source 2097152
  no_files : x.files ≡ []
  anew : x.resume ≡ None

source-short : (i : ℕ) → i ≤ 32 → length (t.source i) ≤ 2097152
source-short i l = let d = length-decimal-le 2 i (omega arith) (omega (arith, l)) (omega (arith, l)) in grind (arith, length-append, d)

with-more : (files : Files) (name bytes path : List ℕ) → length bytes ≤ 2097152 → IsWithin files path 2097152 → IsWithin (with_file name bytes files) path 2097152
with-more files name bytes path l h = by (bytes_eq path name) refl
  where
    by : (b : Bool) → bytes_eq path name ≡ b → IsWithin (with_file name bytes files) path 2097152
    by true e = (bytes, ap (λ b. if b then Some bytes else files path) e, l)
    by false e = (h.0, ap (λ b. if b then Some bytes else files path) e ∙ h.1, h.2)

there : (files : Files) (name bytes : List ℕ) → length bytes ≤ 2097152 → IsWithin (with_file name bytes files) name 2097152
there files name bytes l = (bytes, ap (λ b. if b then Some bytes else files name) ((bytes_eq-Decides name name).1 refl), l)

supplied-more : (files : Files) (name bytes : List ℕ) (xs : List TenantLine) → length bytes ≤ 2097152 → AllByRecursion (IsSupplied files) xs → AllByRecursion (IsSupplied (with_file name bytes files)) xs
supplied-more files name bytes [] l h = tt
supplied-more files name bytes (x ∷ xs) l h =
    (record { told = with-more files name bytes x.source l h.0.told; no_files = h.0.no_files; anew = h.0.anew }, supplied-more files name bytes xs l h.1)

supplied : (n : ℕ) → n ≤ 32 → AllByRecursion (IsSupplied (files_of n)) (tenants n)
supplied zero l = tt
supplied (suc n) l =
    push-each (IsSupplied (files_of (suc n))) (tenants n) (tenant_line (suc n))
    (supplied-more (files_of n) (name_of (suc n)) (t.source (suc n)) (tenants n) (source-short (suc n) l) (supplied n (omega (arith, l))))
    (record { told = there (files_of n) (name_of (suc n)) (t.source (suc n)) (source-short (suc n) l); no_files = refl; anew = refl })

at-tenant : (P : TenantLine → Type 0) (xs : List TenantLine) (n : ℕ) (x : TenantLine) → slice_get xs n ≡ Some x → AllByRecursion P xs → P x
at-tenant P [] n x e h = absurd cc
at-tenant P (y ∷ ys) zero x e h = let same : y ≡ x = cc in subst P same h.0
at-tenant P (y ∷ ys) (suc n) x e h = at-tenant P ys n x e h.1

no-files : (files : Files) (xs : List TenantLine) → AllByRecursion (IsSupplied files) xs → flat_map (λ x. x.files) xs ≡ []
no-files files [] h = refl
no-files files (x ∷ xs) h = ap (λ fs. fs ++ flat_map (λ x. x.files) xs) h.0.no_files ∙ no-files files xs h.1

not-empty : (before after : List FileLine) (f : FileLine) → before ++ f ∷ after ≡ [] → ⊥
not-empty [] after f e = cc
not-empty (b ∷ before) after f e = cc

pub available : (n : ℕ) → n ≤ 32 → IsAvailable (files_of n) (expected n)
available n l path most (source k x at is limit) =
    let h = (at-tenant (IsSupplied (files_of n)) (tenants n) k x at (supplied n l)).told in
    subst (λ m. IsWithin (files_of n) path m) (sym limit) (subst (λ p. IsWithin (files_of n) p 2097152) (sym is) h)
available n l path most (file before after f are is limit) = absurd (not-empty before after f (sym are ∙ no-files (files_of n) (tenants n) (supplied n l)))
available n l path most (snapshot k x at resume limit) =
    let h = (at-tenant (IsSupplied (files_of n)) (tenants n) k x at (supplied n l)).anew in absurd cc
