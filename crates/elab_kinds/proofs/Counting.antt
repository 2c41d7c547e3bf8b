-- How many names are new.
use Rattle.std.proofs.Common.{◌≡◌, refl, sym, ap, ◌∙◌, subst, ℕ, ◌+◌, min, Bool, true, false, List, [], ◌∷◌, length, arith, Result, Ok, Err}
use Rattle.std.specs.Prelude.{not, ◌||◌, if◌then◌else◌, IfOk, OnOk}
use Rattle.std.specs.Result.{result_and}
use Rattle.std.specs.List.{list_any}
use Rattle.std.specs.Str.{bytes_eq}
use Rattle.std.proofs.lemmas.Slice.Eq.{bytes_eq-Decides}
use Rattle.elab_plain.specs.vl_flat.specs.Items as x
use Rattle.elab_plain.specs.vl_flat.specs.Environments.{new_ones}
use Rattle.elab_kinds.specs.Sized.{count_new, kept_number}
use Rattle.elab_plain.specs.vl_base.proofs.Booleans.{or_false_right as or-false, or_true_right as or-true, or_comm as or-swap}

-- a name that is known makes no difference
known-still : (h g : List ℕ → Bool) (n t : List ℕ) → ((t : List ℕ) → h t ≡ g t) → g n ≡ true → (h t || bytes_eq t n) ≡ g t
known-still h g n t same k = go (bytes_eq t n) refl
  where
    go : (b : Bool) → bytes_eq t n ≡ b → (h t || b) ≡ g t
    go true e = or-true (h t) ∙ sym (ap g ((bytes_eq-Decides t n).0 e) ∙ k)
    go false e = or-false (h t) ∙ same t

pub new-ones : (ks : List (List ℕ)) (h : List ℕ → Bool) (ds : List x.Declared) → ((t : List ℕ) → h t ≡ list_any (bytes_eq t) ks) → length (new_ones ks ds) ≡ count_new h ds
new-ones ks h [] same = refl
new-ones ks h (d ∷ ds) same =
    go (λ ls g alike. new-ones ls g ds alike) (list_any (bytes_eq d.name.name) ks) refl
    ∙ ap (λ b. (if b then 0 else 1) + count_new (λ t. h t || bytes_eq t d.name.name) ds) (sym (same d.name.name))
  where
    go : ((ls : List (List ℕ)) (g : List ℕ → Bool) → ((t : List ℕ) → g t ≡ list_any (bytes_eq t) ls) → length (new_ones ls ds) ≡ count_new g ds)
        → (b : Bool) → list_any (bytes_eq d.name.name) ks ≡ b
        → length (if b then new_ones ks ds else d ∷ new_ones (d.name.name ∷ ks) ds) ≡ (if b then 0 else 1) + count_new (λ t. h t || bytes_eq t d.name.name) ds
    go rest true k =
        let e = rest ks (λ t. h t || bytes_eq t d.name.name) (λ t. known-still h (λ t. list_any (bytes_eq t) ks) d.name.name t same k) in
        omega (arith, e)
    go rest false k =
        let e = rest (d.name.name ∷ ks) (λ t. h t || bytes_eq t d.name.name) (λ t. or-swap (h t) (bytes_eq t d.name.name) ∙ ap (λ b. bytes_eq t d.name.name || b) (same t)) in
        omega (arith, e)

-- how many signals a module has, of what is known of the names
pub own-count : (r l k z n m : ℕ) → r ≡ min l 4294967295 → l ≡ k → k ≡ z + n → z ≡ 0 → m ≡ n → r ≡ kept_number m
own-count r l k z n m a b c d e = omega arith

-- a number, where all were noted
pub if-noted : {U E : Type 0} (r : Result U E) (w : Result ℕ E) (n m : ℕ) → w ≡ result_and r (Ok n) → OnOk r (n ≡ m) → IfOk w (λ z. z ≡ m)
if-noted {U} {E} r w n m is p = subst (λ (z : Result ℕ E). IfOk z (λ v. v ≡ m)) (sym is) (go r p)
  where
    go : (r : Result U E) → OnOk r (n ≡ m) → IfOk (result_and r (Ok n)) (λ v. v ≡ m)
    go (Ok x) q = q
    go (Err x) q = tt

-- one more declaration
pub note-one : (old new : ℕ) (is_new known : Bool) (rest count : ℕ) → is_new ≡ not known → new ≡ old + (if is_new then 1 else 0) → count ≡ rest → new + count ≡ old + ((if known then 0 else 1) + rest)
note-one old new true true rest count e l c = cc
note-one old new true false rest count e l c = omega (arith, l, c)
note-one old new false true rest count e l c = omega (arith, l, c)
note-one old new false false rest count e l c = cc
