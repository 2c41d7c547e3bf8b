-- Where a path leads back, one of no more steps than there are nodes does.
use Rattle.std.proofs.Common.{◌≡◌, ℕ, zero, suc, ◌+◌, ◌-◌, ◌<◌, ◌≤◌, ◌⊎◌, ◌↔◌, inl, inr, ⊎_elim, Bool, true, false, not, ◌||◌, ◌&&◌, cond, nat_eq, List, [], ◌∷◌, length, get_or, refl, sym, ap, ◌∙◌, subst, arith}
use Rattle.std.specs.List.{list_any}
use Rattle.std.proofs.lemmas.Bool.{cases_lt}
use Rattle.std.proofs.lemmas.Bool.Decides.{nat_tests}
use Rattle.vl_scope.specs.Faults.{In}
use Rattle.vl_scope.proofs.Members.{list_any-In, list_any-In_cases, list_any-none}
use Rattle.vl_names.specs.Modules.{Leads, along, on}
use Rattle.vl_names.specs.Walks.{IsStep, leads_within, is_cyclic}
use Rattle.vl_scope.specs.vl_base.proofs.Booleans.{or_right_true as or-right, or_left_true as or-left, or_cases, same_by_both as same_bool}
use Rattle.vl_scope.specs.vl_base.proofs.Numbers.{equal-too as equal, nat_eq_self as equal-self}

-- the numbers below n
abbrev nodes : ℕ → List ℕ
nodes zero = []
nodes (suc n) = n ∷ nodes n

length-nodes : (n : ℕ) → length (nodes n) ≡ n
length-nodes zero = refl
length-nodes (suc n) = ap suc (length-nodes n)

In-nodes : (n a : ℕ) → a < n → In a (nodes n)
In-nodes zero a h = absurd (omega arith)
In-nodes (suc n) a h = ⊎_elim (λ less. inr (In-nodes n a less)) (λ more. inl (omega arith)) (cases_lt a n)

-- ---- counts

-- how many pass
abbrev count_of : (ℕ → Bool) → List ℕ → ℕ
count_of p [] = 0
count_of p (x ∷ xs) = cond (p x) 1 0 + count_of p xs

count-length : (p : ℕ → Bool) (xs : List ℕ) → count_of p xs ≤ length xs
count-length p [] = omega arith
count-length p (x ∷ xs) = by (p x) (count-length p xs)
  where
    by : (a : Bool) → count_of p xs ≤ length xs → cond a 1 0 + count_of p xs ≤ length (x ∷ xs)
    by true h = omega arith
    by false h = omega arith

count-le : (p q : ℕ → Bool) (xs : List ℕ) → ((x : ℕ) → p x ≡ true → q x ≡ true) → count_of p xs ≤ count_of q xs
count-le p q [] more = omega arith
count-le p q (x ∷ xs) more = by (p x) (q x) (more x) (count-le p q xs more)
  where
    by : (a b : Bool) → (a ≡ true → b ≡ true) → count_of p xs ≤ count_of q xs → cond a 1 0 + count_of p xs ≤ cond b 1 0 + count_of q xs
    by true true h rest = omega arith
    by true false h rest = absurd (let e : false ≡ true = h refl in cc)
    by false true h rest = omega arith
    by false false h rest = omega arith

count-less : (p q : ℕ → Bool) (xs : List ℕ) → ((x : ℕ) → p x ≡ true → q x ≡ true) → (x : ℕ) → In x xs → p x ≡ false → q x ≡ true → count_of p xs < count_of q xs
count-less p q [] more x there old new = absurd there
count-less p q (y ∷ xs) more x (inl same) old new =
    let no : p y ≡ false = ap p same ∙ old in
    let yes : q y ≡ true = ap q same ∙ new in
    rw (no, yes) (omega (arith, count-le p q xs more))
count-less p q (y ∷ xs) more x (inr there) old new = by (p y) (q y) (more y) (count-less p q xs more x there old new)
  where
    by : (a b : Bool) → (a ≡ true → b ≡ true) → count_of p xs < count_of q xs → cond a 1 0 + count_of p xs < cond b 1 0 + count_of q xs
    by true true h rest = omega arith
    by true false h rest = absurd (let e : false ≡ true = h refl in cc)
    by false true h rest = omega arith
    by false false h rest = omega arith

module _ (graph : List (List ℕ)) (b : ℕ) where
  -- a path of at most n steps leads from a to b
  abbrev S : ℕ → ℕ → Bool
  S n a = leads_within graph n a b

  S-none : (a : ℕ) → S zero a ≡ false
  unfolding leads_within
  S-none a = refl

  S-next : (n a : ℕ) → S (suc n) a ≡ list_any (λ c. nat_eq c b || S n c) (get_or graph a [])
  unfolding leads_within
  S-next n a = refl

  step-first : (n a c : ℕ) → IsStep graph a c → (nat_eq c b || S n c) ≡ true → S (suc n) a ≡ true
  step-first n a c step h = S-next n a ∙ list_any-In (λ c. nat_eq c b || S n c) c (get_or graph a []) step h

  next_cases : (n a : ℕ) → S (suc n) a ≡ true → (c : ℕ) × IsStep graph a c × ((nat_eq c b || S n c) ≡ true)
  next_cases n a h = list_any-In_cases (λ c. nat_eq c b || S n c) (get_or graph a []) (sym (S-next n a) ∙ h)

  more : (n a : ℕ) → S n a ≡ true → S (suc n) a ≡ true
  more zero a h = let f : S zero a ≡ false = S-none a in absurd cc
  more (suc n) a h =
      let r = next_cases n a h in
      step-first (suc n) a r.0 r.1 (⊎_elim (λ e. or-left (nat_eq r.0 b) (S (suc n) r.0) e) (λ e. or-right (nat_eq r.0 b) (S (suc n) r.0) (more n r.0 e)) (or_cases (nat_eq r.0 b) (S n r.0) r.2))

  more_by : (k n a : ℕ) → S n a ≡ true → S (k + n) a ≡ true
  more_by zero n a h = subst (λ m. S m a ≡ true) (omega arith) h
  more_by (suc k) n a h = let e : suc (k + n) ≡ suc k + n = omega arith in subst (λ m. S m a ≡ true) e (more (k + n) a (more_by k n a h))

  prepend : {a c : ℕ} → IsStep graph a c → {d : ℕ} → Leads (IsStep graph) c d → Leads (IsStep graph) a d
  prepend {a} {c} step (along next) = on (along step) next
  prepend {a} {c} step (on before next) = on (prepend step before) next

  leads-from : (n a : ℕ) → S n a ≡ true → Leads (IsStep graph) a b
  leads-from zero a h = let f : S zero a ≡ false = S-none a in absurd cc
  leads-from (suc n) a h =
      let r = next_cases n a h in
      ⊎_elim (λ e. along (subst (IsStep graph a) (equal r.0 b e) r.1)) (λ e. prepend r.1 (leads-from n r.0 e)) (or_cases (nat_eq r.0 b) (S n r.0) r.2)

  -- more steps reach b from no further node
  abbrev Closed : ℕ → Type 0
  Closed n = (a : ℕ) → S (suc n) a ≡ true → S n a ≡ true

  closed-all : (n : ℕ) → Closed n → {a c : ℕ} → Leads (IsStep graph) a c → (nat_eq c b || S n c) ≡ true → S n a ≡ true
  closed-all n closed {a} {c} (along step) h = closed a (step-first n a c step h)
  closed-all n closed {a} {c} (on {b = d} before step) h = closed-all n closed before (or-right (nat_eq d b) (S n d) (closed d (step-first n d c step h)))

  step-inside : (g : List (List ℕ)) (a c : ℕ) → In c (get_or g a []) → a < length g
  step-inside [] a c h = absurd h
  step-inside (x ∷ g) zero c h = omega arith
  step-inside (x ∷ g) (suc a) c h = omega (arith, step-inside g a c h)

  grows : (n : ℕ) → Closed n ⊎ (count_of (S n) (nodes (length graph)) < count_of (S (suc n)) (nodes (length graph)))
  grows n = by (list_any (λ a. S (suc n) a && not (S n a)) (nodes (length graph))) refl
    where
      and_parts : (x y : Bool) → (x && not y) ≡ true → (x ≡ true) × (y ≡ false)
      and_parts true true e = absurd cc
      and_parts true false e = (refl, refl)
      and_parts false y e = absurd cc

      kept : (x y : Bool) → x ≡ true → (x && not y) ≡ false → y ≡ true
      kept true true e f = refl
      kept true false e f = absurd cc
      kept false y e f = absurd cc

      by : (t : Bool) → list_any (λ a. S (suc n) a && not (S n a)) (nodes (length graph)) ≡ t → Closed n ⊎ (count_of (S n) (nodes (length graph)) < count_of (S (suc n)) (nodes (length graph)))
      by true e =
          let r = list_any-In_cases (λ a. S (suc n) a && not (S n a)) (nodes (length graph)) e in
          let new = and_parts (S (suc n) r.0) (S n r.0) r.2 in
          inr (count-less (S n) (S (suc n)) (nodes (length graph)) (more n) r.0 r.1 new.1 new.0)
      by false e = inl (λ a h.
          let r = next_cases n a h in
          kept (S (suc n) a) (S n a) h (list_any-none (λ a. S (suc n) a && not (S n a)) (nodes (length graph)) e a (In-nodes (length graph) a (step-inside graph a r.0 r.1))))

  bounded : (n : ℕ) → ((m : ℕ) × (m < n) × Closed m) ⊎ (n ≤ count_of (S n) (nodes (length graph)))
  bounded zero = inr (omega arith)
  bounded (suc n) = ⊎_elim (λ h. inl (h.0, omega (arith, h.1), h.2)) (λ h. ⊎_elim (λ closed. inl (n, omega arith, closed)) (λ less. inr (omega arith)) (grows n)) (bounded n)

  closed_at : (m : ℕ) × (m ≤ length graph) × Closed m
  closed_at = ⊎_elim (λ h. (h.0, omega (arith, h.1), h.2)) (λ h. absurd (omega (arith, count-length (S (suc (length graph))) (nodes (length graph)), length-nodes (length graph)))) (bounded (suc (length graph)))

  leads-to : (a : ℕ) → Leads (IsStep graph) a b → S (length graph) a ≡ true
  leads-to a leads =
      let k = closed_at in
      let few : (length graph - k.0) + k.0 ≡ length graph = omega (arith, k.1) in
      subst (λ n. S n a ≡ true) few (more_by (length graph - k.0) k.0 a (closed-all k.0 k.2 leads (or-left (nat_eq b b) (S k.0 b) (equal-self b))))

pub cyclic-law : (graph : List (List ℕ)) (k : ℕ) → (is_cyclic graph k ≡ true) ↔ Leads (IsStep graph) k k
cyclic-law graph k = (leads-from graph k (length graph) k, leads-to graph k k)

pub cyclic-not : (graph : List (List ℕ)) (k : ℕ) → (Leads (IsStep graph) k k → ⊥) → false ≡ is_cyclic graph k
cyclic-not graph k h = by (is_cyclic graph k) (λ e. h ((cyclic-law graph k).0 e))
  where
    by : (t : Bool) → (t ≡ true → ⊥) → false ≡ t
    by true f = absurd (f refl)
    by false f = refl

-- what says whether a path leads back
pub cyclic-is : (graph : List (List ℕ)) (k : ℕ) (t : Bool) → (t ≡ true) ↔ Leads (IsStep graph) k k → t ≡ is_cyclic graph k
cyclic-is graph k t h = same_bool t (is_cyclic graph k) (λ e. (cyclic-law graph k).1 (h.0 e)) (λ e. h.1 ((cyclic-law graph k).0 e))
