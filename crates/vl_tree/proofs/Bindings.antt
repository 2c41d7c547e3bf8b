-- Binding keeps the order, follows the table, and is the only way to do so.
use Rattle.std.proofs.Common.{◌≡◌, ℕ, ◌<◌, ◌≤◌, List, [], ◌∷◌, ◌++◌, Bool, true, false, cond, refl, sym, ap, arith, ◌∙◌, append_assoc, append-nil}
use Rattle.std.specs.Prelude.{nat_lt}
use Rattle.std.proofs.lemmas.Bool.{ltb-true, ltb-false, lt-ltb, le-ltb}
use Rattle.vl_tree.specs.declared.tree.BinaryOperator.{BinaryOperator}
use Rattle.vl_tree.specs.declared.tree.Link.{Link, out-Link, roll-out-Link, out-roll-Link}
use Rattle.vl_tree.specs.declared.tree.Unary.{Unary}
use Rattle.vl_tree.specs.Grammar.{link_of}
use Rattle.vl_tree.specs.Binding.{Term, operand, join, row_of, joined, bound_from, first_of, links_of, AllRows, IsBound}

-- ---- links

operator_back : (o : BinaryOperator) (f : Unary) → (out-Link (link_of o f)).operator ≡ o
operator_back o f = ap (λ z. z.operator) (out-roll-Link (record { operator = o; operand = f }))

-- ---- order

module _ (o : BinaryOperator) (f : Unary) where
  first-joined : (t : Term) → first_of (joined t o f) ≡ first_of t
  first-joined (operand e) = refl
  first-joined (join p l r) = go (nat_lt (row_of o) (row_of p))
    where
      go : (c : Bool) → first_of (cond c (join p l (joined r o f)) (join o (join p l r) (operand f))) ≡ first_of l
      go true = refl
      go false = refl

  links-joined : (t : Term) → links_of (joined t o f) ≡ links_of t ++ link_of o f ∷ []
  links-joined (operand e) = refl
  links-joined (join p l r) = go (nat_lt (row_of o) (row_of p)) (first-joined r) (links-joined r)
    where
      go : (c : Bool) → first_of (joined r o f) ≡ first_of r → links_of (joined r o f) ≡ links_of r ++ link_of o f ∷ [] → links_of (cond c (join p l (joined r o f)) (join o (join p l r) (operand f))) ≡ (links_of l ++ link_of p (first_of r) ∷ links_of r) ++ link_of o f ∷ []
      go true e g = rw (e, g) (sym (append_assoc (links_of l) (link_of p (first_of r) ∷ links_of r) (link_of o f ∷ [])))
      go false e g = refl

pub first-bound_from : (ls : List Link) (t : Term) → first_of (bound_from t ls) ≡ first_of t
first-bound_from [] t = refl
first-bound_from (l ∷ ls) t = first-bound_from ls _ ∙ first-joined (out-Link l).operator (out-Link l).operand t

pub links-bound_from : (ls : List Link) (t : Term) → links_of (bound_from t ls) ≡ links_of t ++ ls
links-bound_from [] t = sym (append-nil (links_of t))
links-bound_from (l ∷ ls) t =
    links-bound_from ls _ ∙ (ap (λ z. z ++ ls) (links-joined (out-Link l).operator (out-Link l).operand t)
    ∙ (append_assoc (links_of t) (link_of (out-Link l).operator (out-Link l).operand ∷ []) ls ∙ ap (λ z. links_of t ++ z ∷ ls) (roll-out-Link l)))

-- ---- the table

all_weaker : (P Q : ℕ → Type 0) → ((n : ℕ) → P n → Q n) → (t : Term) → AllRows P t → AllRows Q t
all_weaker P Q w (operand e) h = tt
all_weaker P Q w (join o l r) (a, b, c) = (w _ a, all_weaker P Q w l b, all_weaker P Q w r c)

module _ (o : BinaryOperator) (f : Unary) where
  all_joined : (P : ℕ → Type 0) → P (row_of o) → (t : Term) → AllRows P t → AllRows P (joined t o f)
  all_joined P h (operand e) a = (h, tt, tt)
  all_joined P h (join p l r) (a, b, c) = go (nat_lt (row_of o) (row_of p)) (all_joined P h r c)
    where
      go : (d : Bool) → AllRows P (joined r o f) → AllRows P (cond d (join p l (joined r o f)) (join o (join p l r) (operand f)))
      go true g = (a, b, g)
      go false g = (h, (a, b, c), tt)

  bound_joined : (t : Term) → IsBound t → IsBound (joined t o f)
  bound_joined (operand e) h = (tt, tt, tt, tt)
  bound_joined (join p l r) (a, b, c, d) = go (nat_lt (row_of o) (row_of p)) refl (λ k. all_joined (λ n. n < row_of p) k r b) (bound_joined r d)
    where
      go : (q : Bool) → nat_lt (row_of o) (row_of p) ≡ q → (row_of o < row_of p → AllRows (λ n. n < row_of p) (joined r o f)) → IsBound (joined r o f) → IsBound (cond q (join p l (joined r o f)) (join o (join p l r) (operand f)))
      go true e g i = (a, g (ltb-true _ _ e), c, i)
      go false e g i =
          let low : row_of p ≤ row_of o = ltb-false _ _ e in
          ((low, all_weaker (λ n. n ≤ row_of p) (λ n. n ≤ row_of o) (λ n k. omega arith) l a, all_weaker (λ n. n < row_of p) (λ n. n ≤ row_of o) (λ n k. omega arith) r b), tt, (a, b, c, d), tt)

pub bound_from_bound : (ls : List Link) (t : Term) → IsBound t → IsBound (bound_from t ls)
bound_from_bound [] t h = h
bound_from_bound (l ∷ ls) t h = bound_from_bound ls _ (bound_joined (out-Link l).operator (out-Link l).operand t h)

-- ---- no other way

abbrev AllLinks : (ℕ → Type 0) → List Link → Type 0
AllLinks P [] = Unit {0}
AllLinks P (l ∷ ls) = P (row_of (out-Link l).operator) × AllLinks P ls

all_append : (P : ℕ → Type 0) (xs ys : List Link) → AllLinks P xs → AllLinks P ys → AllLinks P (xs ++ ys)
all_append P [] ys a b = b
all_append P (x ∷ xs) ys (a, c) b = (a, all_append P xs ys c b)

all_links : (P : ℕ → Type 0) (t : Term) → AllRows P t → AllLinks P (links_of t)
all_links P (operand e) h = tt
all_links P (join o l r) (a, b, c) = all_append P (links_of l) (link_of o (first_of r) ∷ links_of r) (all_links P l b) (rw (operator_back o (first_of r)) a, all_links P r c)

bound_from-append : (xs ys : List Link) (t : Term) → bound_from t (xs ++ ys) ≡ bound_from (bound_from t xs) ys
bound_from-append [] ys t = refl
bound_from-append (x ∷ xs) ys t = bound_from-append xs ys _

-- what binds tighter than an operator goes into its right part
bound_inside : (o : BinaryOperator) (l : Term) (ls : List Link) (t : Term) → AllLinks (λ n. n < row_of o) ls → bound_from (join o l t) ls ≡ join o l (bound_from t ls)
bound_inside o l [] t h = refl
bound_inside o l (x ∷ xs) t (a, b) =
    ap (λ c. bound_from (cond c (join o l (joined t (out-Link x).operator (out-Link x).operand)) (join (out-Link x).operator (join o l t) (operand (out-Link x).operand))) xs) (lt-ltb _ _ a)
    ∙ bound_inside o l xs (joined t (out-Link x).operator (out-Link x).operand) b

-- an operator that binds no tighter takes the whole as its left part
joined_outside : (o : BinaryOperator) (f : Unary) (t : Term) → AllRows (λ n. n ≤ row_of o) t → joined t o f ≡ join o t (operand f)
joined_outside o f (operand e) h = refl
joined_outside o f (join p l r) (a, b, c) = ap (λ d. cond d (join p l (joined r o f)) (join o (join p l r) (operand f))) (le-ltb (row_of o) (row_of p) a)

bound_link : (o : BinaryOperator) (f : Unary) (ls : List Link) (t : Term) → bound_from t (link_of o f ∷ ls) ≡ bound_from (joined t o f) ls
bound_link o f ls t = ap (λ z. bound_from (joined t z.operator z.operand) ls) (out-roll-Link (record { operator = o; operand = f }))

pub bound_again : (t : Term) → IsBound t → bound_from (operand (first_of t)) (links_of t) ≡ t
bound_again (operand e) h = refl
bound_again (join o l r) (a, b, c, d) =
    bound_from-append (links_of l) (link_of o (first_of r) ∷ links_of r) (operand (first_of l))
    ∙ (ap (λ z. bound_from z (link_of o (first_of r) ∷ links_of r)) (bound_again l c)
    ∙ (bound_link o (first_of r) (links_of r) l
    ∙ (ap (λ z. bound_from z (links_of r)) (joined_outside o (first_of r) l a)
    ∙ (bound_inside o l (links_of r) (operand (first_of r)) (all_links (λ n. n < row_of o) r b)
    ∙ ap (λ z. join o l z) (bound_again r d)))))
