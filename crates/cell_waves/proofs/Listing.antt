-- Stores, and sites of as many.
use Rattle.std.proofs.Common.{◌≡◌, ℕ, ◌+◌, ◌<◌, ◌≤◌, List, [], ◌∷◌, ◌++◌, length, map, take, get_or, refl, sym, ap, ◌∙◌, arith, append-nil, append_assoc}
use Rattle.std.specs.List.{AllByRecursion}
use Rattle.std.proofs.lemmas.List.{length-map, length-take-le, take_more, take_all}
use Rattle.cell_emit.specs.cell_form.specs.declared.cell.Write.{Write}
use Rattle.cell_emit.specs.declared.pending.Site.{Site}
use Rattle.ten_form.specs.declared.store.Store.{Store}
use Rattle.cell_waves.specs.Reading.{EachHas}
use Rattle.cell_waves.specs.Keeping.{each_written}
pub use Rattle.cell_emit.specs.vl_base.proofs.Lists.{all_weaker as all-from, all_with as all-with}

-- ---- lists

module _ {X : Type 0} (P : X → Type 0) where
  pub all-front : (xs ys : List X) → AllByRecursion P (xs ++ ys) → AllByRecursion P xs
  all-front [] ys h = tt
  all-front (x ∷ xs) ys h = (h.0, all-front xs ys h.1)

  pub all-back : (xs ys : List X) → AllByRecursion P (xs ++ ys) → AllByRecursion P ys
  all-back [] ys h = h
  all-back (x ∷ xs) ys h = all-back xs ys h.1

  pub all-both : (xs ys : List X) → AllByRecursion P xs → AllByRecursion P ys → AllByRecursion P (xs ++ ys)
  all-both [] ys h k = k
  all-both (x ∷ xs) ys h k = (h.0, all-both xs ys h.1 k)

-- ---- stores with their sites

pub each-push : (P : Store → Site → Type 0) (xs : List Store) (ss : List Site) (x : Store) (s : Site) → EachHas P xs ss → P x s → EachHas P (xs ++ x ∷ []) (ss ++ s ∷ [])
each-push P [] [] x s h k = (k, tt)
each-push P [] (t ∷ ss) x s h k = absurd h
each-push P (y ∷ xs) [] x s h k = absurd h
each-push P (y ∷ xs) (t ∷ ss) x s h k = (h.0, each-push P xs ss x s h.1 k)

pub each-from : (P Q : Store → Site → Type 0) → ((x : Store) (s : Site) → P x s → Q x s) → (xs : List Store) (ss : List Site) → EachHas P xs ss → EachHas Q xs ss
each-from P Q f [] [] h = tt
each-from P Q f [] (s ∷ ss) h = absurd h
each-from P Q f (x ∷ xs) [] h = absurd h
each-from P Q f (x ∷ xs) (s ∷ ss) h = (f x s h.0, each-from P Q f xs ss h.1)

-- where each store has something too
pub each-with : (A : Store → Type 0) (P Q : Store → Site → Type 0) → ((x : Store) (s : Site) → A x → P x s → Q x s) → (xs : List Store) (ss : List Site) → AllByRecursion A xs → EachHas P xs ss → EachHas Q xs ss
each-with A P Q f [] [] a h = tt
each-with A P Q f [] (s ∷ ss) a h = absurd h
each-with A P Q f (x ∷ xs) [] a h = absurd h
each-with A P Q f (x ∷ xs) (s ∷ ss) a h = (f x s a.0 h.0, each-with A P Q f xs ss a.1 h.1)

-- what each store has by its site
pub each-store : (A : Site → Type 0) (P : Store → Site → Type 0) (Q : Store → Type 0) → ((x : Store) (s : Site) → A s → P x s → Q x) → (xs : List Store) (ss : List Site) → AllByRecursion A ss → EachHas P xs ss → AllByRecursion Q xs
each-store A P Q f [] [] a h = tt
each-store A P Q f [] (s ∷ ss) a h = absurd h
each-store A P Q f (x ∷ xs) [] a h = absurd h
each-store A P Q f (x ∷ xs) (s ∷ ss) a h = (f x s a.0 h.0, each-store A P Q f xs ss a.1 h.1)

-- and what each site has by its store
pub each-site : (A : Store → Type 0) (P : Store → Site → Type 0) (Q : Site → Type 0) → ((x : Store) (s : Site) → A x → P x s → Q s) → (xs : List Store) (ss : List Site) → AllByRecursion A xs → EachHas P xs ss → AllByRecursion Q ss
each-site A P Q f [] [] a h = tt
each-site A P Q f [] (s ∷ ss) a h = absurd h
each-site A P Q f (x ∷ xs) [] a h = absurd h
each-site A P Q f (x ∷ xs) (s ∷ ss) a h = (f x s a.0 h.0, each-site A P Q f xs ss a.1 h.1)

pub each-long : (P : Store → Site → Type 0) (xs : List Store) (ss : List Site) → EachHas P xs ss → length xs ≡ length ss
each-long P [] [] h = refl
each-long P [] (s ∷ ss) h = absurd h
each-long P (x ∷ xs) [] h = absurd h
each-long P (x ∷ xs) (s ∷ ss) h = let long = each-long P xs ss h.1 in omega (arith, long)

-- ---- writes

pub written-push : (f : Store → Site → List Write) (xs : List Store) (ss : List Site) (x : Store) (s : Site) → length xs ≡ length ss →
    each_written f (xs ++ x ∷ []) (ss ++ s ∷ []) ≡ each_written f xs ss ++ f x s
written-push f [] [] x s e = append-nil (f x s)
written-push f [] (t ∷ ss) x s e = absurd (omega (arith, e))
written-push f (y ∷ xs) [] x s e = absurd (omega (arith, e))
written-push f (y ∷ xs) (t ∷ ss) x s e =
    ap (λ ws. f y t ++ ws) (written-push f xs ss x s (omega (arith, e))) ∙ sym (append_assoc (f y t) (each_written f xs ss) (f x s))

-- writes with these behind them, and one store's more
pub written-more : (f : Store → Site → List Write) (old mid new : List Write) (xs : List Store) (ss : List Site) (x : Store) (s : Site) → length xs ≡ length ss → mid ≡ old ++ each_written f xs ss → new ≡ mid ++ f x s →
    new ≡ old ++ each_written f (xs ++ x ∷ []) (ss ++ s ∷ [])
written-more f old mid new xs ss x s e is more =
    more ∙ ap (λ ws. ws ++ f x s) is ∙ append_assoc old (each_written f xs ss) (f x s) ∙ ap (λ ws. old ++ ws) (sym (written-push f xs ss x s e))

-- so one store after the other
pub written-step : (f : Store → Site → List Write) (xs : List Store) (ss : List Site) (n : ℕ) (old mid new : List Write) (x : Store) (s : Site) → length xs ≡ length ss → n < length xs →
    mid ≡ old ++ each_written f (take n xs) (take n ss) → new ≡ mid ++ f (get_or xs n x) (get_or ss n s) → new ≡ old ++ each_written f (take (n + 1) xs) (take (n + 1) ss)
written-step f xs ss n old mid new x s e lt is more =
    let long : length (take n xs) ≡ length (take n ss) = length-take-le n xs (omega (arith, lt)) ∙ sym (length-take-le n ss (omega (arith, lt, e))) in
    written-more f old mid new (take n xs) (take n ss) (get_or xs n x) (get_or ss n s) long is more
    ∙ ap (λ ys. old ++ each_written f ys (take n ss ++ get_or ss n s ∷ [])) (sym (take_more xs n x lt))
    ∙ ap (λ ts. old ++ each_written f (take (n + 1) xs) ts) (sym (take_more ss n s (omega (arith, lt, e))))

pub written-all : (f : Store → Site → List Write) (xs : List Store) (ss : List Site) (n : ℕ) (old new : List Write) → length xs ≡ length ss → length xs ≤ n →
    new ≡ old ++ each_written f (take n xs) (take n ss) → new ≡ old ++ each_written f xs ss
written-all f xs ss n old new e le is =
    is ∙ ap (λ ys. old ++ each_written f ys (take n ss)) (take_all n xs le) ∙ ap (λ ts. old ++ each_written f xs ts) (take_all n ss (omega (arith, le, e)))

-- as many stores as sites, where they are of the same memories
pub same-long : (xs : List Store) (ss : List Site) → map (λ (x : Store). x.memory) xs ≡ map (λ (s : Site). s.memory) ss → length xs ≡ length ss
same-long xs ss e =
    sym (length-map xs (λ (x : Store). x.memory)) ∙ ap (λ (ns : List ℕ). length ns) e ∙ length-map ss (λ (s : Site). s.memory)
