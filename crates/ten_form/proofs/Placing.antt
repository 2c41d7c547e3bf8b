-- Where signals are: their registers, and the memories of their numbers.
use Rattle.std.proofs.Common.{◌≡◌, ℕ, suc, ◌+◌, ◌<◌, List, [], ◌∷◌, ◌++◌, length, map, take, get_or, sym, ap, ◌∙◌, arith}
use Rattle.std.proofs.lemmas.List.{map_more, length-map, length-take-le}
use Rattle.vl_design.specs.declared.design.Signal.{Signal}
use Rattle.vl_design.specs.Rows.{row_of}
use Rattle.vl_design.specs.Syntax.{Row}
use Rattle.ten_form.specs.Registers.{place, places_from, places}

places-push : (f : ℕ → ℕ) (k : ℕ) (rows : List Row) (r : Row) → places_from f k (rows ++ r ∷ []) ≡ places_from f k rows ++ place f r.kind (k + length rows) ∷ []
places-push f k [] r = let e : k ≡ k + 0 = omega arith in ap (λ n. place f r.kind n ∷ []) e
places-push f k (q ∷ rows) r =
    let e : (k + 1) + length rows ≡ k + suc (length rows) = omega arith in
    ap (λ ps. place f q.kind k ∷ ps) (places-push f (k + 1) rows r ∙ ap (λ n. places_from f (k + 1) rows ++ place f r.kind n ∷ []) e)

-- one signal more
pub places-more : (f : ℕ → ℕ) (signals : List Signal) (n : ℕ) (x : Signal) → n < length signals → x ≡ get_or signals n x →
    places f (map row_of (take (n + 1) signals)) ≡ places f (map row_of (take n signals)) ++ place f x.kind n ∷ []
places-more f signals n x lt e =
    let ps = places f (map row_of (take n signals)) in
    ap (λ rows. places_from f 0 rows) (map_more row_of signals n x lt) ∙ ap (λ (y : Signal). places_from f 0 (map row_of (take n signals) ++ row_of y ∷ [])) (sym e)
    ∙ places-push f 0 (map row_of (take n signals)) (row_of x) ∙ ap (λ m. ps ++ place f x.kind m ∷ []) zero-first
  where
    zero-first : 0 + length (map row_of (take n signals)) ≡ n
    zero-first = let long = length-map (take n signals) row_of ∙ length-take-le n signals (omega arith) in omega (arith, long)
