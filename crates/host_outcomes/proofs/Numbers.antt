-- Numbers of tenants in a script.
use Rattle.std.proofs.Common.{◌≡◌, ℕ, zero, suc, ◌+◌, ◌<◌, ◌≤◌, ◌⊎◌, inl, inr, eqb, Bool, true, false, List, [], ◌∷◌, length, drop, get_or, map, cond, refl, sym, ap, ◌∙◌, arith, eq-eqb, ne_eqb}
use Rattle.std.proofs.lemmas.Bool.{cases_lt, eqb-true, false≢true}
use Rattle.host_judge.specs.host_form.specs.Histories.{notes_of, Note}
use Rattle.host_outcomes.specs.Reported.{number_in, numbers_from, renumbered}
use Rattle.host_outcomes.proofs.Sums.{past}

-- ---- what is from a place on

pub from_here : {X : Type 0} (xs : List X) (k : ℕ) (y : X) (ys : List X) → drop k xs ≡ y ∷ ys → (k < length xs) × ((d : X) → get_or xs k d ≡ y) × (drop (suc k) xs ≡ ys)
from_here [] zero y ys e = absurd (let l = ap length e in omega (arith, l))
from_here [] (suc k) y ys e = absurd (let l = ap length e in omega (arith, l))
from_here (x ∷ xs) zero y ys e = (omega arith, λ d. ap (λ zs. get_or zs 0 y) e, ap (drop 1) e)
from_here (x ∷ xs) (suc k) y ys e = let r = from_here xs k y ys e in (omega (arith, r.0), r.1, r.2)

-- ---- numbers

-- each is that of a tenant
number_within : (n : ℕ) (rs : List Bool) (j d : ℕ) → j < length (numbers_from n rs) → (n ≤ get_or (numbers_from n rs) j d) × (get_or (numbers_from n rs) j d < n + length rs)
number_within n [] j d l = absurd (omega (arith, l))
number_within n (true ∷ rs) j d l = let r = number_within (n + 1) rs j d l in (omega (arith, r.0), omega (arith, r.1))
number_within n (false ∷ rs) zero d l = (omega arith, omega arith)
number_within n (false ∷ rs) (suc j) d l = let r = number_within (n + 1) rs j d (omega (arith, l)) in (omega (arith, r.0), omega (arith, r.1))

-- that isn't refused
number_accepted : (n : ℕ) (rs : List Bool) (j d i : ℕ) → j < length (numbers_from n rs) → get_or (numbers_from n rs) j d ≡ n + i → get_or rs i false ≡ false
number_accepted n [] j d i l e = refl
number_accepted n (true ∷ rs) j d zero l e = absurd (let r = number_within (n + 1) rs j d l in omega (arith, r.0, e))
number_accepted n (true ∷ rs) j d (suc i) l e = number_accepted (n + 1) rs j d i l (omega (arith, e))
number_accepted n (false ∷ rs) j d zero l e = refl
number_accepted n (false ∷ rs) zero d (suc i) l e = absurd (omega (arith, e))
number_accepted n (false ∷ rs) (suc j) d (suc i) l e = number_accepted (n + 1) rs j d i (omega (arith, l)) (omega (arith, e))

-- and no two have one
number_once : (n : ℕ) (rs : List Bool) (i j d : ℕ) → i < length (numbers_from n rs) → j < length (numbers_from n rs) → get_or (numbers_from n rs) i d ≡ get_or (numbers_from n rs) j d → i ≡ j
number_once n [] i j d l m e = absurd (omega (arith, l))
number_once n (true ∷ rs) i j d l m e = number_once (n + 1) rs i j d l m e
number_once n (false ∷ rs) zero zero d l m e = refl
number_once n (false ∷ rs) zero (suc j) d l m e = absurd (let r = number_within (n + 1) rs j d (omega (arith, m)) in omega (arith, r.0, e))
number_once n (false ∷ rs) (suc i) zero d l m e = absurd (let r = number_within (n + 1) rs i d (omega (arith, l)) in omega (arith, r.0, e))
number_once n (false ∷ rs) (suc i) (suc j) d l m e = ap suc (number_once (n + 1) rs i j d (omega (arith, l)) (omega (arith, m)) e)

module _ (refused : List Bool) where
  abbrev numbers : List ℕ
  numbers = numbers_from 0 refused

  pub same_number : (t k : ℕ) → k < length (numbers_from 0 refused) → eqb (number_in refused t) (number_in refused k) ≡ eqb t k
  same_number t k l = step (eqb t k) refl
    where
      once : (t < length numbers) ⊎ (length numbers ≤ t) → number_in refused t ≡ number_in refused k → t ≡ k
      once (inl m) e = number_once 0 refused t k (length refused) m l e
      once (inr m) e = absurd (let r = number_within 0 refused k (length refused) l in let p = past numbers t (length refused) m in omega (arith, r.1, p, e))

      step : (b : Bool) → eqb t k ≡ b → eqb (number_in refused t) (number_in refused k) ≡ b
      step true e = ap (λ (u : ℕ). eqb (number_in refused u) (number_in refused k)) (eqb-true t k e) ∙ eq-eqb (number_in refused k) (number_in refused k) refl
      step false e = ne_eqb (number_in refused t) (number_in refused k) (λ q. absurd (false≢true (sym e ∙ eq-eqb t k (once (cases_lt t (length numbers)) q))))

  no_number : (t n : ℕ) → n < length refused → get_or refused n false ≡ true → eqb (number_in refused t) n ≡ false
  no_number t n l e = ne_eqb (number_in refused t) n (none (cases_lt t (length numbers)))
    where
      none : (t < length numbers) ⊎ (length numbers ≤ t) → number_in refused t ≡ n → ⊥
      none (inl m) q = false≢true (sym (number_accepted 0 refused t (length refused) n m (omega (arith, q))) ∙ e)
      none (inr m) q = let p = past numbers t (length refused) m in omega (arith, l, p, q)

  -- the notes of a tenant under its number in the script
  pub notes_renumbered : (k : ℕ) → k < length (numbers_from 0 refused) → (ns : List Note) → notes_of (number_in refused k) (map (renumbered refused) ns) ≡ map (renumbered refused) (notes_of k ns)
  notes_renumbered k l [] = refl
  notes_renumbered k l (n ∷ ns) =
      ap (λ (b : Bool). cond b (renumbered refused n ∷ theirs) theirs) (same_number n.entry.tenant k l)
      ∙ step (eqb n.entry.tenant k) (notes_renumbered k l ns)
    where
      theirs : List Note
      theirs = notes_of (number_in refused k) (map (renumbered refused) ns)

      step : (b : Bool) → theirs ≡ map (renumbered refused) (notes_of k ns) → cond b (renumbered refused n ∷ theirs) theirs ≡ map (renumbered refused) (cond b (n ∷ notes_of k ns) (notes_of k ns))
      step true r = ap (λ zs. renumbered refused n ∷ zs) r
      step false r = r

  -- a refused one has none
  pub notes_refused : (n : ℕ) → n < length refused → get_or refused n false ≡ true → (ns : List Note) → notes_of n (map (renumbered refused) ns) ≡ []
  notes_refused n l e [] = refl
  notes_refused n l e (m ∷ ns) =
      ap (λ (b : Bool). cond b (renumbered refused m ∷ notes_of n (map (renumbered refused) ns)) (notes_of n (map (renumbered refused) ns))) (no_number m.entry.tenant n l e)
      ∙ notes_refused n l e ns
