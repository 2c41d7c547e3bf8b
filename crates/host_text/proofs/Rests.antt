-- The rest behind the last newline.
use Rattle.std.proofs.Common.{◌≡◌, ℕ, ◌+◌, ◌<◌, ◌==◌, Bool, true, false, if◌then◌else◌, List, [], ◌∷◌, ◌++◌, length, map, drop, get_or, Bor, refl, sym, ap, ◌∙◌}
use Rattle.std.proofs.lemmas.List.{map-append, at_drop_more}
use Rattle.host_text.specs.Words.{without_empty_rest, uncommented}

onto : {X : Type 0} (b : Bool) (x : X) (ys zs : List X) → x ∷ (if b then ys else zs) ≡ (if b then x ∷ ys else x ∷ zs)
onto true x ys zs = refl
onto false x ys zs = refl

-- it is no line where it is empty
pub rest-last : (ls : List (List ℕ)) (rest : List ℕ) → without_empty_rest (ls ++ rest ∷ []) ≡ (if length rest == 0 then ls else ls ++ rest ∷ [])
rest-last [] rest = refl
rest-last (l ∷ []) rest = onto (length rest == 0) l [] (rest ∷ [])
rest-last (l ∷ m ∷ more) rest = ap (λ xs. l ∷ xs) (rest-last (m ∷ more) rest) ∙ onto (length rest == 0) l (m ∷ more) ((m ∷ more) ++ rest ∷ [])

-- what references point to
abbrev shown : List (Bor (List ℕ)) → List (List ℕ)
shown rs = map (λ r. r.now) rs

shown-push : (front : List (Bor (List ℕ))) (rest : Bor (List ℕ)) → shown (front ++ rest ∷ []) ≡ shown front ++ rest.now ∷ []
shown-push front rest = map-append (λ (r : Bor (List ℕ)). r.now) front (rest ∷ [])

pub rest-empty : (all front : List (Bor (List ℕ))) (rest : Bor (List ℕ)) → all ≡ front ++ rest ∷ [] → (length rest.now == 0) ≡ true → shown front ≡ without_empty_rest (shown all)
rest-empty all front rest e empty =
    sym (ap (λ rs. without_empty_rest (shown rs)) e ∙ ap without_empty_rest (shown-push front rest) ∙ rest-last (shown front) rest.now
    ∙ ap (λ b. if b then shown front else shown front ++ rest.now ∷ []) empty)

pub rest-full : (all front : List (Bor (List ℕ))) (rest : Bor (List ℕ)) → all ≡ front ++ rest ∷ [] → (length rest.now == 0) ≡ false → shown (front ++ rest ∷ []) ≡ without_empty_rest (shown all)
rest-full all front rest e full =
    shown-push front rest
    ∙ sym (ap (λ rs. without_empty_rest (shown rs)) e ∙ ap without_empty_rest (shown-push front rest) ∙ rest-last (shown front) rest.now
    ∙ ap (λ b. if b then shown front else shown front ++ rest.now ∷ []) full)

-- nothing is left from a `#` on
pub nothing-left : (text : List ℕ) (i : ℕ) → i < length text → get_or text i 0 ≡ 35 → uncommented (drop i text) ≡ []
nothing-left text i l e =
    let rest = drop (i + 1) text in
    at_drop_more uncommented text i 0 l ∙ ap (λ (b : ℕ). if b == 35 then [] else b ∷ uncommented rest) e
