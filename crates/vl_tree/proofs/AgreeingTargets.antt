-- Expressions and left sides: the number of each parser doesn't matter once it is more than there are tokens.
use Rattle.std.proofs.Common.{◌≡◌, ℕ, zero, suc, ◌+◌, ◌<◌, ◌≤◌, length, List, ◌∷◌, Err, cond, Option, refl, ap, arith}
use Rattle.std.specs.Prelude.{codes}
use Rattle.std.proofs.Math.Dec.{ltb}
use Rattle.vl_base.specs.declared.place.Place.{Place}
use Rattle.vl_tree.specs.declared.token.Token.{Token}
use Rattle.vl_tree.specs.declared.tree.Identifier.{Identifier}
use Rattle.vl_tree.specs.MarksOfGrammar.{select_mark}
use Rattle.vl_tree.specs.Reading.{mark, next_by}
use Rattle.vl_tree.specs.Reading as plain
use Rattle.vl_tree.specs.Expressions.{expr}
use Rattle.vl_tree.proofs.Enough.{expr_agrees}
use Rattle.vl_tree.specs.declared.source_fault.Cause.TheVariants.{Tokens}
use Rattle.vl_tree.specs.Bounds.{most_tokens}
use Rattle.vl_tree.specs.Parsers.{Outcome, Parser, and_then, pure, next_or, limited, many_counted, identifier_token}
use Rattle.vl_tree.specs.Parsing.{whole, target, index_bound, index, indices, lvalue, target_level, target_name, targets, more_targets}
use Rattle.vl_tree.proofs.FollowsOfSource.{left, no_longer}
use Rattle.vl_tree.proofs.Lvalues.{follows_whole, follows_index, follows_lvalue, follows_target}
use Rattle.vl_tree.proofs.Agreeing.{Agree, step_if, step_bind, cond_same}

-- ---- within limit 4

limited_agrees : {A : Type 0} (p q : plain.Parser A) (ts : List Token) → p ts ≡ q ts → limited most_tokens p ts ≡ limited most_tokens q ts
unfolding limited
limited_agrees p q ts h = rw h refl

whole_agrees : (n m : ℕ) (ts : List Token) → length ts + 1 < n → length ts + 1 < m → whole n ts ≡ whole m ts
whole_agrees n m ts h g = limited_agrees (expr n) (expr m) ts (expr_agrees n m ts h g)

step_counted : {X A : Type 0} (k : ℕ) (f : Token → Option X) (p q : X → Parser A) (y z : Outcome A) (ts : List Token) → ((v : Token) (us : List Token) (x : X) → ts ≡ v ∷ us → p x us ≡ q x us) → y ≡ z
    → next_or (next_by f ts) (λ x us. cond (ltb k most_tokens) (p x us) (Err (Tokens, ts))) y ≡ next_or (next_by f ts) (λ x us. cond (ltb k most_tokens) (q x us) (Err (Tokens, ts))) z
step_counted k f p q y z ts h i = step_if f (λ x us. cond (ltb k most_tokens) (p x us) (Err (Tokens, ts))) (λ x us. cond (ltb k most_tokens) (q x us) (Err (Tokens, ts))) y z ts (λ v us x e. cond_same (ltb k most_tokens) (p x us) (q x us) (Err (Tokens, ts)) (Err (Tokens, ts)) (h v us x e) refl) i

many_counted_same : {X A : Type 0} (f : Token → Option X) (p q : ℕ → X → Parser (A × ℕ)) (b : ℕ) → ((k : ℕ) (x : X) (us : List Token) → length us < b → p k x us ≡ q k x us) → ((k : ℕ) (x : X) (us : List Token) → left (p k x us) ≤ length us)
    → (n m k : ℕ) (ts : List Token) → length ts ≤ b → length ts < n → length ts < m → many_counted f p n k ts ≡ many_counted f q m k ts
unfolding many_counted
many_counted_same f p q b h s zero m k ts i j l = absurd (omega (arith, j))
many_counted_same f p q b h s (suc n) zero k ts i j l = absurd (omega (arith, l))
many_counted_same f p q b h s (suc n) (suc m) k ts i j l =
    step_counted k f _ _ _ _ ts (λ v us x e. let size = ap length e in rw (← h (k + 1) x us (omega (arith, i, size)))
    (step_bind (p (k + 1) x us) _ _ (λ a vs g. let less : length vs ≤ length us = omega (arith, s (k + 1) x us, ap left g) in
    ap (λ o. and_then o (λ others. pure (a.0 ∷ others.0, others.1))) (many_counted_same f p q b h s n m a.1 vs (omega (arith, size, i)) (omega (arith, size, j)) (omega (arith, size, l)))))) refl

-- ---- the productions, where what is inside agrees on fewer tokens

module _ (n m b : ℕ) (nb : b < n) (mb : b < m) where
  inside : (ts : List Token) → length ts < b → whole n ts ≡ whole m ts
  inside ts h = whole_agrees n m ts (omega (arith, h, nb)) (omega (arith, h, mb))

  bound_same : (k : ℕ) (ts : List Token) → length ts ≤ b → index_bound n k ts ≡ index_bound m k ts
  unfolding index_bound
  bound_same k ts h = step_counted k select_mark _ _ _ _ ts (λ v us x e. let size = ap length e in rw (← inside us (omega (arith, h, size))) refl) refl

  index_same : (k : ℕ) (p : Place) (ts : List Token) → length ts < b → index n k p ts ≡ index m k p ts
  unfolding index
  index_same k p ts h = rw (← inside ts h) (step_bind (whole n ts) _ _ (λ a us e. let less = no_longer (whole n) (follows_whole n) ts in rw (← bound_same k us (omega (arith, h, less, ap left e))) refl))

  indices_same : (k : ℕ) (ts : List Token) → length ts ≤ b → indices n k ts ≡ indices m k ts
  unfolding indices
  indices_same k ts h = many_counted_same (mark (codes "[")) (index n) (index m) b index_same (λ k p us. no_longer (index n k p) (follows_index n k p) us) n m k ts h (omega (arith, h, nb)) (omega (arith, h, mb))

  name_same : (k : ℕ) (i : Identifier) (ts : List Token) → length ts ≤ b → target_name (lvalue n) n k i ts ≡ target_name (lvalue m) m k i ts
  unfolding target_name
  name_same k i ts h = rw (← indices_same k ts h) refl

  module _ (same : (k : ℕ) (ts : List Token) → length ts < b → lvalue n k ts ≡ lvalue m k ts) where
    more_same : (k : ℕ) (ts : List Token) → length ts ≤ b → more_targets (lvalue n) n k ts ≡ more_targets (lvalue m) m k ts
    unfolding more_targets
    more_same k ts h = many_counted_same (mark (codes ",")) (λ j _. lvalue n j) (λ j _. lvalue m j) b (λ j x us. same j us) (λ j x us. no_longer (lvalue n j) (follows_lvalue n j) us) n m k ts h (omega (arith, h, nb)) (omega (arith, h, mb))

    targets_same : (k : ℕ) (p : Place) (ts : List Token) → length ts < b → targets (lvalue n) n k p ts ≡ targets (lvalue m) m k p ts
    unfolding targets
    targets_same k p ts h = rw (← same k ts h) (step_bind (lvalue n k ts) _ _ (λ a us e. let less = no_longer (lvalue n k) (follows_lvalue n k) ts in rw (← more_same a.1 us (omega (arith, h, less, ap left e))) refl))

    level_same : (k : ℕ) (ts : List Token) → length ts ≤ b → target_level (lvalue n) n k ts ≡ target_level (lvalue m) m k ts
    unfolding target_level
    level_same k ts h = step_counted k (mark (codes "{")) _ _ _ _ ts (λ v us p e. let size = ap length e in targets_same (k + 1) p us (omega (arith, h, size)))
        (step_counted k identifier_token _ _ _ _ ts (λ v us i e. let size = ap length e in name_same (k + 1) i us (omega (arith, h, size))) refl)

pub lvalue_agrees : (n m k : ℕ) (ts : List Token) → length ts + 1 < n → length ts + 1 < m → lvalue n k ts ≡ lvalue m k ts
unfolding lvalue
lvalue_agrees zero m k ts h g = absurd (omega (arith, h))
lvalue_agrees (suc n) zero k ts h g = absurd (omega (arith, g))
lvalue_agrees (suc n) (suc m) k ts h g = level_same n m (length ts) (omega (arith, h)) (omega (arith, g)) (λ j us less. lvalue_agrees n m j us (omega (arith, less, h)) (omega (arith, less, g))) k ts (omega arith)

module _ (n m b : ℕ) (nb : b + 1 < n) (mb : b + 1 < m) where
  pub agree_whole : Agree b (whole n) (whole m)
  agree_whole = record { same = λ ts h. whole_agrees n m ts (omega (arith, h, nb)) (omega (arith, h, mb)); less = λ ts. no_longer (whole n) (follows_whole n) ts }

  pub agree_target : Agree b (target n) (target m)
  unfolding target
  agree_target = record { same = λ ts h. ap (λ o. and_then o (λ v. pure v.0)) (lvalue_agrees n m 0 ts (omega (arith, h, nb)) (omega (arith, h, mb))); less = λ ts. no_longer (target n) (follows_target n) ts }
