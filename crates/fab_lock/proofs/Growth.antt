-- How the notes of a seat and the ticks of a tenant go on where a history goes on.
use Rattle.std.proofs.Common.{◌≡◌, ℕ, ◌≤◌, ◌≢◌, eqb, Bool, true, false, cond, max, List, [], ◌∷◌, ◌++◌, sym, refl, ap, ◌∙◌, subst, arith, append_assoc, append-nil, length, take, drop, le_refl, eq-eqb, ne_eqb}
use Rattle.std.specs.Prelude.{All}
use Rattle.std.proofs.lemmas.List.Elements.{All-head, All-tail, filter-append}
use Rattle.fab_lock.specs.declared.entry.Entry.{Entry}
use Rattle.fab_lock.specs.Histories.{StartsWith, longer, notes_of, high}
use mathlib.Core.Logic.{dite}
use native.Mathlib.Decide.{dec_lt}
use Rattle.std.proofs.lemmas.List.{take-append-le, take-append-drop}
use Rattle.std.proofs.lemmas.Bool.{lt-ltb, le-ltb}
use Rattle.std.proofs.Math.Seq.{take-length}

module _ {N : Type 0} where
  -- a history begins with itself
  pub starts_same : (xs : List N) → StartsWith xs xs
  starts_same xs = ([], sym (append-nil xs))

  -- what a beginning begins with, the whole begins with
  pub starts_on : (xs ys zs : List N) → StartsWith xs ys → StartsWith ys zs → StartsWith xs zs
  starts_on xs ys zs a b = (b.0 ++ a.0, a.1 ∙ ap (λ (l : List N). l ++ a.0) b.1 ∙ append_assoc zs b.0 a.0)

  -- of two beginnings of one history the longer begins with the shorter
  between : (zs xs ys : List N) → StartsWith zs xs → StartsWith zs ys → length ys ≤ length xs → StartsWith xs ys
  between zs xs ys a b le = (
    drop (length ys) xs,
    sym (take-append-drop (length ys) xs) ∙ ap (λ (l : List N). l ++ drop (length ys) xs)
        (sym (take-append-le (length ys) xs a.0 le) ∙ ap (take (length ys)) (sym a.1 ∙ b.1) ∙ take-append-le (length ys) ys b.0 (le_refl (length ys)) ∙ take-length ys),
  )

  -- a history begins with the longer of two of its beginnings, which begins with both
  pub longer_starts : (zs xs ys : List N) → StartsWith zs xs → StartsWith zs ys → StartsWith zs (longer xs ys) × StartsWith (longer xs ys) xs × StartsWith (longer xs ys) ys
  longer_starts zs xs ys a b = dite (dec_lt (length xs) (length ys))
      (λ l. subst (λ c. StartsWith zs (cond c ys xs) × StartsWith (cond c ys xs) xs × StartsWith (cond c ys xs) ys) (sym (lt-ltb (length xs) (length ys) l)) (b, between zs ys xs b a (omega arith), starts_same ys))
      (λ n. subst (λ c. StartsWith zs (cond c ys xs) × StartsWith (cond c ys xs) xs × StartsWith (cond c ys xs) ys) (sym (le-ltb (length xs) (length ys) (omega arith))) (a, starts_same xs, between zs xs ys a b (omega arith)))

module _ {N : Type 0} (entry : N → Entry) where
  -- notes of another number
  none_of : (n m : ℕ) (ys : List N) → n ≢ m → All (λ x. (entry x).seat ≡ m) ys → notes_of entry n ys ≡ []
  none_of n m [] ne all = refl
  none_of n m (y ∷ ys) ne all = let no = ne_eqb (entry y).seat n (λ e. ne (sym e ∙ All-head (λ x. (entry x).seat ≡ m) y ys all)) in
      ap (λ b. cond b (y ∷ notes_of entry n ys) (notes_of entry n ys)) no ∙ none_of n m ys ne (All-tail (λ x. (entry x).seat ≡ m) y ys all)

  -- notes of this number
  all_of : (m : ℕ) (ys : List N) → All (λ x. (entry x).seat ≡ m) ys → notes_of entry m ys ≡ ys
  all_of m [] all = refl
  all_of m (y ∷ ys) all = let is = eq-eqb (entry y).seat m (All-head (λ x. (entry x).seat ≡ m) y ys all) in
      ap (λ b. cond b (y ∷ notes_of entry m ys) (notes_of entry m ys)) is ∙ ap (λ (l : List N). y ∷ l) (all_of m ys (All-tail (λ x. (entry x).seat ≡ m) y ys all))

  -- where notes of another number are added, the notes of a number stay
  pub notes_stay : (n m : ℕ) (xs ys : List N) → n ≢ m → All (λ x. (entry x).seat ≡ m) ys → notes_of entry n (xs ++ ys) ≡ notes_of entry n xs
  notes_stay n m xs ys ne all = filter-append (λ x. eqb (entry x).seat n) xs ys ∙ ap (λ (l : List N). notes_of entry n xs ++ l) (none_of n m ys ne all) ∙ append-nil (notes_of entry n xs)

  -- where notes of a number are added, these are added to its notes
  pub notes_grow : (m : ℕ) (xs ys : List N) → All (λ x. (entry x).seat ≡ m) ys → notes_of entry m (xs ++ ys) ≡ notes_of entry m xs ++ ys
  notes_grow m xs ys all = filter-append (λ x. eqb (entry x).seat m) xs ys ∙ ap (λ (l : List N). notes_of entry m xs ++ l) (all_of m ys all)

  higher : (c : Bool) (k a b : ℕ) → a ≤ b → cond c (max k a) a ≤ cond c (max k b) b
  higher true k a b up = omega arith
  higher false k a b up = up

  high_more : (t : ℕ) (xs ys : List N) → high entry t xs ≤ high entry t (xs ++ ys)
  high_more t [] ys = omega arith
  high_more t (x ∷ xs) ys = higher (eqb (entry x).tenant t) (entry x).to (high entry t xs) (high entry t (xs ++ ys)) (high_more t xs ys)

  -- a beginning goes no further
  pub high_starts : (t : ℕ) (xs ys : List N) → StartsWith xs ys → high entry t ys ≤ high entry t xs
  high_starts t xs ys s = subst (λ (l : List N). high entry t ys ≤ high entry t l) (sym s.1) (high_more t ys s.0)
