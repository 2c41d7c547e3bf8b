-- What the body of a function begins with, word by word.
use Rattle.std.proofs.Common.{◌≡◌, ◌<◌, ◌≤◌, ◌+◌, ℕ, List, [], ◌∷◌, ◌++◌, append_assoc, append-nil, length, map, drop, get_or, sym, ap, ◌∙◌, arith}
use Rattle.std.specs.Prelude.{replicate, slice_set}
use Rattle.std.proofs.lemmas.List.{at_drop_more, drop_all, map-append}
use Rattle.vl_design.specs.declared.design.Signal.{Signal}
use Rattle.vl_design.specs.Functions.{zeros, with_inputs}
use Rattle.vl_design.specs.Syntax.{Row}
use Rattle.vl_design.specs.Trees.{row_of}

-- the words of one signal more
pub zeros-on : (xs : List Signal) (i : ℕ) (x : Signal) (words : List ℕ) (values new whole : List (List ℕ)) → i < length xs → x ≡ get_or xs i x → words ≡ replicate (row_of x).words 0
    → new ≡ values ++ words ∷ [] → values ++ zeros (map row_of (drop i xs)) ≡ whole → new ++ zeros (map row_of (drop (i + 1) xs)) ≡ whole
zeros-on xs i x words values new whole h e w n l =
    let more : zeros (map row_of (drop i xs)) ≡ words ∷ zeros (map row_of (drop (i + 1) xs)) =
    at_drop_more (λ ys. zeros (map row_of ys)) xs i x h ∙ ap (λ z. z ∷ zeros (map row_of (drop (i + 1) xs))) (ap (λ y. replicate (row_of y).words 0) (sym e) ∙ sym w) in
    let k = rw more at l in
    rw n (append_assoc values (words ∷ []) (zeros (map row_of (drop (i + 1) xs))) ∙ k)

pub zeros-end : (xs : List Signal) (i : ℕ) (values whole : List (List ℕ)) → length xs ≤ i → values ++ zeros (map row_of (drop i xs)) ≡ whole → values ≡ whole
zeros-end xs i values whole h l =
    let none = drop_all i xs h in
    let k = rw none at l in
    sym (append-nil values) ∙ k

pub zeros-both : (xs ys : List Row) → zeros xs ++ zeros ys ≡ zeros (xs ++ ys)
zeros-both xs ys = sym (map-append (λ (r : Row). replicate {A = ℕ} r.words 0) xs ys)

-- one input more
pub inputs-on : (ks : List ℕ) (i k : ℕ) (args rest : List ℕ) (v : ℕ) (values new whole : List (List ℕ)) → i < length ks → k ≡ get_or ks i k → args ≡ v ∷ rest → new ≡ slice_set values k (v ∷ [])
    → with_inputs (drop i ks) args values ≡ whole → with_inputs (drop (i + 1) ks) rest new ≡ whole
inputs-on ks i k args rest v values new whole h e a n l =
    let more : drop i ks ≡ k ∷ drop (i + 1) ks = at_drop_more (λ ys. ys) ks i k h ∙ ap (λ y. y ∷ drop (i + 1) ks) (sym e) in
    let t = rw (more, a) at l in
    rw n t

-- no argument is left
pub inputs-over : (ks left : List ℕ) (values whole : List (List ℕ)) → length left < 1 → with_inputs ks left values ≡ whole → values ≡ whole
inputs-over [] left values whole l h = h
inputs-over (k ∷ ks) [] values whole l h = h
inputs-over (k ∷ ks) (v ∷ vs) values whole l h = absurd (omega arith)

-- no input is left
pub inputs-end : (ks : List ℕ) (i : ℕ) (args : List ℕ) (values whole : List (List ℕ)) → length ks ≤ i → with_inputs (drop i ks) args values ≡ whole → values ≡ whole
inputs-end ks i args values whole h l = let none = drop_all i ks h in let k = rw none at l in k

pub ruleset calling = (zeros-on, zeros-end, zeros-both, inputs-on, inputs-end)
