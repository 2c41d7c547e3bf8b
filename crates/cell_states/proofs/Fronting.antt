-- The first of stores and their sites, and those behind them.
use Rattle.std.proofs.Common.{◌≡◌, ℕ, zero, suc, List, [], ◌∷◌, map, take, drop, sym, ap, ◌∙◌}
use Rattle.std.specs.List.{AllByRecursion}
use Rattle.std.proofs.lemmas.List.{drop-map}
use Rattle.cell_emit.specs.declared.pending.Site.{Site}
use Rattle.cell_emit.specs.Pendings.{memories_of}
use Rattle.ten_form.specs.declared.store.Store.{Store}
use Rattle.ten_form.specs.Stores.{AreApart, AreDisjoint}
use Rattle.cell_waves.specs.Reading.{EachHas}

module _ {X : Type 0} (P : X → Type 0) where
  pub all-take : (n : ℕ) (xs : List X) → AllByRecursion P xs → AllByRecursion P (take n xs)
  all-take zero [] h = tt
  all-take zero (x ∷ xs) h = tt
  all-take (suc n) [] h = tt
  all-take (suc n) (x ∷ xs) h = (h.0, all-take n xs h.1)

  pub all-drop : (n : ℕ) (xs : List X) → AllByRecursion P xs → AllByRecursion P (drop n xs)
  all-drop zero [] h = tt
  all-drop zero (x ∷ xs) h = h
  all-drop (suc n) [] h = tt
  all-drop (suc n) (x ∷ xs) h = all-drop n xs h.1

module _ (P : Store → Site → Type 0) where
  pub each-take : (n : ℕ) (xs : List Store) (ss : List Site) → EachHas P xs ss → EachHas P (take n xs) (take n ss)
  each-take zero [] [] h = tt
  each-take zero [] (s ∷ ss) h = tt
  each-take zero (x ∷ xs) [] h = tt
  each-take zero (x ∷ xs) (s ∷ ss) h = tt
  each-take (suc n) [] [] h = tt
  each-take (suc n) [] (s ∷ ss) h = absurd h
  each-take (suc n) (x ∷ xs) [] h = absurd h
  each-take (suc n) (x ∷ xs) (s ∷ ss) h = (h.0, each-take n xs ss h.1)

  pub each-parts : (n : ℕ) (xs : List Store) (ss : List Site) → EachHas P (take n xs) (take n ss) → EachHas P (drop n xs) (drop n ss) → EachHas P xs ss
  each-parts zero [] [] a b = b
  each-parts zero [] (s ∷ ss) a b = b
  each-parts zero (x ∷ xs) [] a b = b
  each-parts zero (x ∷ xs) (s ∷ ss) a b = b
  each-parts (suc n) [] [] a b = tt
  each-parts (suc n) [] (s ∷ ss) a b = absurd a
  each-parts (suc n) (x ∷ xs) [] a b = absurd a
  each-parts (suc n) (x ∷ xs) (s ∷ ss) a b = (a.0, each-parts n xs ss a.1 b)

-- the first stores have no register of those behind them
pub front-apart : (n : ℕ) (xs : List Store) → AreDisjoint xs → AllByRecursion (λ x. AllByRecursion (AreApart x) (drop n xs)) (take n xs)
front-apart zero [] h = tt
front-apart zero (x ∷ xs) h = tt
front-apart (suc n) [] h = tt
front-apart (suc n) (x ∷ xs) h = (all-drop (AreApart x) n xs h.0, front-apart n xs h.1)

pub drop-disjoint : (n : ℕ) (xs : List Store) → AreDisjoint xs → AreDisjoint (drop n xs)
drop-disjoint zero [] h = tt
drop-disjoint zero (x ∷ xs) h = h
drop-disjoint (suc n) [] h = tt
drop-disjoint (suc n) (x ∷ xs) h = drop-disjoint n xs h.1

-- they are of the same memories
pub drop-same : (n : ℕ) (xs : List Store) (ss : List Site) → map (λ (x : Store). x.memory) xs ≡ memories_of ss → map (λ (x : Store). x.memory) (drop n xs) ≡ memories_of (drop n ss)
drop-same n xs ss e = sym (drop-map (λ (x : Store). x.memory) n xs) ∙ ap (drop n) e ∙ drop-map (λ (s : Site). s.memory) n ss
