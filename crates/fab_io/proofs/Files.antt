-- What a list of files tells.
use Rattle.std.proofs.Common.{◌≡◌, ℕ, ◌<◌, ◌≤◌, Bool, true, false, cond, suc, zero, nat_lt, List, [], ◌∷◌, ◌++◌, length, get_or, Option, Some, None, refl, sym, ap, ◌∙◌, arith}
use Rattle.std.proofs.Math.ListN.{set}
use Rattle.std.specs.List.{find, position, position_or_len}
use Rattle.std.specs.Option.{option_map}
use Rattle.std.specs.Str.{bytes_eq}
use Rattle.std.proofs.lemmas.Slice.Eq.{bytes_eq-Decides}
use Rattle.std.proofs.lemmas.Bool.Decides.{nat_tests}
use Rattle.std.proofs.lemmas.List.Quantifiers.{position-Some}
use Rattle.std.proofs.lemmas.List.Sums.{fails_before_first}
use Rattle.fab_io.specs.Outside.{Files, with_file}
use Rattle.fab_io.specs.Memory.{NamedBytes, files_of}

-- of two tests that don't hold at once, either may come first
swapped : {X : Type 0} (p q : Bool) (x y z : X) → (p ≡ true → q ≡ true → ⊥) → cond p x (cond q y z) ≡ cond q y (cond p x z)
swapped true true x y z other = absurd (other refl refl)
swapped true false x y z other = refl
swapped false q x y z other = refl

-- a test that comes twice
shadowed : {X : Type 0} (p : Bool) (x y z : X) → cond p x z ≡ cond p x (cond p y z)
shadowed true x y z = refl
shadowed false x y z = refl

-- two names that one name equals are equal
same_names : (asked a b : List ℕ) → bytes_eq a b ≡ false → bytes_eq asked a ≡ true → bytes_eq asked b ≡ true → ⊥
same_names asked a b other is_a is_b =
    let same : a ≡ b = sym ((bytes_eq-Decides asked a).0 is_a) ∙ (bytes_eq-Decides asked b).0 is_b in
    let both : bytes_eq a b ≡ true = (bytes_eq-Decides a b).1 same in
    cc

-- files of two names may be written in either order
pub with_file-swap : (a x b y : List ℕ) (files : Files) → bytes_eq a b ≡ false → with_file b y (with_file a x files) ≡ with_file a x (with_file b y files)
with_file-swap a x b y files other =
    λ i asked. swapped (bytes_eq asked b) (bytes_eq asked a) (Some y) (Some x) (files asked) (λ is_b is_a. same_names asked a b other is_a is_b) i

-- a file that is written twice has what came last
pub with_file-twice : (name x y : List ℕ) (files : Files) → with_file name x files ≡ with_file name x (with_file name y files)
with_file-twice name x y files = λ i asked. shadowed (bytes_eq asked name) (Some x) (Some y) (files asked) i

-- a file of a new name at the end
pub files_of-push : (name bytes : List ℕ) (files : List NamedBytes) (d : NamedBytes) → ((k : ℕ) → k < length files → bytes_eq name (get_or files k d).name ≡ false) →
    files_of (files ++ record { name = name; bytes = bytes } ∷ []) ≡ with_file name bytes (files_of files)
files_of-push name bytes [] d other = refl
files_of-push name bytes (file ∷ rest) d other =
    ap (with_file file.name file.bytes) (files_of-push name bytes rest d (λ k below. other (suc k) (omega arith)))
    ∙ with_file-swap name bytes file.name file.bytes (files_of rest) (other 0 (omega arith))

-- the first file of a name is made other bytes
pub files_of-set : (bytes : List ℕ) (files : List NamedBytes) (d : NamedBytes) (name : List ℕ) (i : ℕ) → i < length files →
    bytes_eq name (get_or files i d).name ≡ true → ((k : ℕ) → k < i → bytes_eq name (get_or files k d).name ≡ false) →
    files_of (set files i (record (get_or files i d) { bytes = bytes })) ≡ with_file name bytes (files_of files)
files_of-set bytes [] d name i within is other = absurd (omega arith)
files_of-set bytes (file ∷ rest) d name zero within is other =
    rw ((bytes_eq-Decides name file.name).0 is) (with_file-twice file.name bytes file.bytes (files_of rest))
files_of-set bytes (file ∷ rest) d name (suc i) within is other =
    ap (with_file file.name file.bytes) (files_of-set bytes rest d name i (omega arith) is (λ k below. other (suc k) (omega arith)))
    ∙ with_file-swap name bytes file.name file.bytes (files_of rest) (other 0 (omega arith))

-- a search that finds nothing went to the end
past_end : (place end : ℕ) → cond (nat_lt place end) (Some place) None ≡ None → end ≤ place
past_end place end none = grind (arith, nat_tests)

-- no element passes where a search finds none
no_position : {X : Type 0} (p : X → Bool) (xs : List X) (k : ℕ) (d : X) → position p xs ≡ None → k < length xs → p (get_or xs k d) ≡ false
no_position p xs k d none within =
    let reached : length xs ≤ position_or_len p xs = past_end _ _ none in
    fails_before_first p xs k d (omega arith)

-- the file that a search found is made other bytes
pub files_of-replaced : (files : List NamedBytes) (name bytes : List ℕ) (i : ℕ) (old new : NamedBytes) →
    Some i ≡ position (λ file. bytes_eq name file.name) files → old ≡ get_or files i old → new ≡ record old { bytes = bytes } →
    files_of (set files i new) ≡ with_file name bytes (files_of files)
files_of-replaced files name bytes i old new found is_old is_new =
    let first = position-Some (λ (file : NamedBytes). bytes_eq name file.name) files i old (sym found) in
    let same : new ≡ record (get_or files i old) { bytes = bytes } = is_new ∙ ap (λ (file : NamedBytes). record file { bytes = bytes }) is_old in
    rw same (files_of-set bytes files old name i first.0 first.1 first.2)

-- a file that a search did not find is put at the end
pub files_of-added : (files : List NamedBytes) (name bytes : List ℕ) (new : NamedBytes) →
    None ≡ position (λ file. bytes_eq name file.name) files → new.name ≡ name → new.bytes ≡ bytes →
    files_of (files ++ new ∷ []) ≡ with_file name bytes (files_of files)
files_of-added files name bytes new none is_name is_bytes =
    let same : new ≡ record { name = name; bytes = bytes } = λ i. record { name = is_name i; bytes = is_bytes i } in
    rw same (files_of-push name bytes files new (λ k below. no_position (λ (file : NamedBytes). bytes_eq name file.name) files k new (sym none) below))

-- what a test that chooses a file tells
told_by : (p : Bool) (file : NamedBytes) (rest : Option NamedBytes) → option_map (λ file. file.bytes) (cond p (Some file) rest) ≡ cond p (Some file.bytes) (option_map (λ file. file.bytes) rest)
told_by true file rest = refl
told_by false file rest = refl

-- the bytes of the first file of a name
pub files_of-find : (files : List NamedBytes) (asked : List ℕ) → files_of files asked ≡ option_map (λ file. file.bytes) (find (λ file. bytes_eq asked file.name) files)
files_of-find [] asked = refl
files_of-find (file ∷ rest) asked =
    ap (λ found. cond (bytes_eq asked file.name) (Some file.bytes) found) (files_of-find rest asked)
    ∙ sym (told_by (bytes_eq asked file.name) file (find (λ file. bytes_eq asked file.name) rest))
