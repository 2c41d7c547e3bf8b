-- File sets: looking a name up, and adding a file.
use Rattle.std.proofs.Common.{◌≡◌, ℕ, ◌≤◌, ◌≢◌, false, List, [], ◌∷◌, ◌++◌, length, get_or, Some, None, Option, cond, refl, ap, ◌∙◌, arith}
use Rattle.std.specs.Prelude.{slice_get, option_map, nat_lt, is_some, All, ◌<◌}
use Rattle.std.specs.List.{position_or_len}
use Rattle.std.specs.Str.{bytes_eq}
use Rattle.std.proofs.lemmas.Slice.Eq.{bytes_eq-Decides}
use Rattle.std.proofs.lemmas.Bool.Decides.{not_from_Decides}
use Rattle.std.proofs.Math.ListN.{length-append}
use Rattle.std.proofs.lemmas.List.Folds.{find_at}
use Rattle.std.proofs.lemmas.List.Sums.{fails_before_first}
use Rattle.std.proofs.lemmas.List.Elements.{All-push}
use Rattle.std.proofs.lemmas.List.Quantifiers.{all_pairs_push}
use Rattle.std.proofs.lemmas.Option.{slice_get_past}
use Rattle.vl_base.specs.declared.files.File.{File}
use Rattle.vl_base.specs.Files.{contents, number_of, IsFileSet}

place_of : (n at len : ℕ) → Some n ≡ (cond (nat_lt at len) (Some at) None) → n ≡ at
place_of n at len e = grind arith

none_of : (at len : ℕ) → None ≡ (cond (nat_lt at len) (Some at) None) → len ≤ at
none_of at len e = grind arith

pub contents-found : (files : List File) (name : List ℕ) (n : ℕ) → Some n ≡ number_of files name → contents files name ≡ option_map (λ f. f.bytes) (slice_get files n)
contents-found files name n e =
    let at : n ≡ position_or_len (λ f. bytes_eq f.name name) files = place_of n _ _ e in
    rw at (ap (option_map (λ f. f.bytes)) (find_at (λ f. bytes_eq f.name name) files))

pub contents-absent : (files : List File) (name : List ℕ) → None ≡ number_of files name → contents files name ≡ None
contents-absent files name e =
    let past : length files ≤ position_or_len (λ f. bytes_eq f.name name) files = none_of _ _ e in
    ap (option_map (λ f. f.bytes)) (find_at (λ f. bytes_eq f.name name) files ∙ slice_get_past files _ past)

differs : (xs ys : List ℕ) → bytes_eq xs ys ≡ false → xs ≢ ys
differs xs ys e = not_from_Decides (bytes_eq xs ys) (bytes_eq-Decides xs ys) e

none_is : (n : Option ℕ) → is_some n ≡ false → None ≡ n
none_is None e = refl
none_is (Some n) e = absurd (cc)

pub added : (files : List File) (f : File) → IsFileSet files → (length files ≡ 16 → ⊥) → is_some (number_of files f.name) ≡ false → length f.name ≤ 255 → All (λ b. b < 256) f.bytes → IsFileSet (files ++ f ∷ [])
added files f set room absent short bytes =
    let past : length files ≤ position_or_len (λ g. bytes_eq g.name f.name) files = none_of _ _ (none_is _ absent) in
    record {
      few = rw length-append (omega (arith, set.few));
      different = all_pairs_push (λ g h. g.name ≢ h.name) files f set.different
          (λ k d within. differs (get_or files k d).name f.name (fails_before_first (λ g. bytes_eq g.name f.name) files k d (omega arith)));
      short = All-push (λ g. length g.name ≤ 255) files f set.short short;
      bytes = All-push (λ g. All (λ b. b < 256) g.bytes) files f set.bytes bytes;
    }
