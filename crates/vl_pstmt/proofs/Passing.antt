-- What the functions of a parser give, step by step.
use Rattle.std.proofs.Common.{◌≡◌, ℕ, zero, suc, ◌+◌, ◌<◌, ◌≤◌, length, List, [], ◌∷◌, ◌++◌, Result, Ok, Err, Option, Some, None, Bool, true, false, Bor, refl, sym, ap, arith, append_assoc, append-nil, ◌∙◌}
use Rattle.std.specs.Result.{IsErrAnd}
use Rattle.std.proofs.lemmas.Result.{err_from_is_err_and}
use Rattle.std.proofs.lemmas.Bool.{lt-ltb, le-ltb}
use Rattle.vl_tree.specs.declared.token.Token.{Token}
use Rattle.vl_tree.specs.Reading.{next_by, is_next}
use Rattle.vl_tree.specs.declared.source_fault.Fault.{Fault}
use Rattle.vl_tree.specs.declared.source_fault.Fault.TheVariants as fault
use Rattle.vl_tree.specs.declared.source_fault.Cause.TheVariants.{Tokens}
use Rattle.vl_tree.specs.Bounds.{most_tokens}
use Rattle.vl_tree.specs.Parsers.{Outcome, Parser, and_then, pure, with_front, many, before, many_counted, with_counted_front, Fails, Gives}
pub use Rattle.vl_tree.proofs.Shared.{with_front_none}

-- a fault stands, whatever were to come behind
pub fails_on : {A B : Type 0} (e : Fault) (o : Outcome A) (f : A → Parser B) → Fails e o → Fails e (and_then o f)
fails_on (fault.At cause ts) o f h = rw h refl
fails_on fault.Memory o f h = tt

-- a `?` hands a fault on
pub passed : {A : Type 0} (r : Result (A × Bor (List Token)) Fault) (e : Fault) (o : Outcome A) → IsErrAnd r (λ x. x ≡ e) → Fails e o → Gives r o
passed r e o h g = let p = err_from_is_err_and r h in rw (p.1, p.2) g

-- a `?` hands a fault on, whatever were to come behind
pub hands_on : {A B : Type 0} (r : Result (B × Bor (List Token)) Fault) (e : Fault) (o : Outcome A) (f : A → Parser B) → IsErrAnd r (λ x. x ≡ e) → Fails e o → Gives r (and_then o f)
hands_on r e o f h g = passed r e _ h (fails_on e o f g)

-- ---- lists

pub with_front_more : {A : Type 0} (front : List A) (e : A) (o : Outcome (List A)) → with_front (front ++ e ∷ []) o ≡ with_front front (and_then o (λ es. pure (e ∷ es)))
with_front_more front e (Ok x) = ap (λ es. Ok (es, x.1)) (append_assoc front (e ∷ []) x.0)
with_front_more front e (Err r) = refl

-- what a list is from here on, with these in front, is the whole
abbrev pub GoesOn : {X A : Type 0} → (Token → Option X) → (X → Parser A) → List A → List Token → Outcome (List A) → Type 0
GoesOn f p front ts whole = (k : ℕ) × (length ts < k) × (with_front front (many f p k ts) ≡ whole)

-- what is left of a list after a turn
pub many_turn : {X A : Type 0} (f : Token → Option X) (p : X → Parser A) (front : List A) (ts us vs : List Token) (x : X) (e : A) (whole : Outcome (List A)) → Some (x, us) ≡ next_by f ts → p x us ≡ Ok (e, vs) → length vs < length ts
    → GoesOn f p front ts whole → GoesOn f p (front ++ e ∷ []) vs whole
unfolding many
many_turn f p front ts us vs x e whole a b l (zero, h, q) = absurd (omega arith)
many_turn f p front ts us vs x e whole a b l (suc k, h, q) = (k, omega arith, with_front_more front e (many f p k vs) ∙ (rw (← a, b) at q))

-- a list ends before another token
pub many_end : {X A : Type 0} (f : Token → Option X) (p : X → Parser A) (front : List A) (ts : List Token) (whole : Outcome (List A)) → None ≡ next_by f ts → GoesOn f p front ts whole → whole ≡ Ok (front, ts)
unfolding many
many_end f p front ts whole a (zero, h, q) = absurd (omega arith)
many_end f p front ts whole a (suc k, h, q) = sym (rw (← a, append-nil) at q)

-- a fault in an item is one of the list
pub many_fails : {X A : Type 0} (f : Token → Option X) (p : X → Parser A) (front : List A) (ts us : List Token) (x : X) (e : Fault) (whole : Outcome (List A)) → Some (x, us) ≡ next_by f ts → Fails e (p x us) → GoesOn f p front ts whole → Fails e whole
unfolding many
many_fails f p front ts us x e whole a b (zero, h, q) = absurd (omega arith)
many_fails f p front ts us x e whole a b (suc k, h, q) =
    let g : Fails e (with_front front (many f p (suc k) ts)) = rw (← a) (fails_on e _ _ (fails_on e _ _ b)) in
    rw q at g

-- ---- lists up to a token that ends them

-- what a list is from here on, with these in front, is the whole
abbrev pub GoesBefore : {A : Type 0} → (Token → Bool) → Parser A → List A → List Token → Outcome (List A) → Type 0
GoesBefore f p front ts whole = (k : ℕ) × (length ts < k) × (with_front front (before f p k ts) ≡ whole)

-- what is left of a list after a turn
pub before_turn : {A : Type 0} (f : Token → Bool) (p : Parser A) (front : List A) (ts vs : List Token) (e : A) (whole : Outcome (List A)) → false ≡ is_next f ts → p ts ≡ Ok (e, vs) → length vs < length ts
    → GoesBefore f p front ts whole → GoesBefore f p (front ++ e ∷ []) vs whole
unfolding before
before_turn f p front ts vs e whole a b l (zero, h, q) = absurd (omega arith)
before_turn f p front ts vs e whole a b l (suc k, h, q) = (k, omega arith, with_front_more front e (before f p k vs) ∙ (rw (← a, b) at q))

-- a list ends before the token that ends it
pub before_end : {A : Type 0} (f : Token → Bool) (p : Parser A) (front : List A) (ts : List Token) (whole : Outcome (List A)) → true ≡ is_next f ts → GoesBefore f p front ts whole → whole ≡ Ok (front, ts)
unfolding before
before_end f p front ts whole a (zero, h, q) = absurd (omega arith)
before_end f p front ts whole a (suc k, h, q) = sym (rw (← a, append-nil) at q)

-- a fault in an item is one of the list
pub before_fails : {A : Type 0} (f : Token → Bool) (p : Parser A) (front : List A) (ts : List Token) (e : Fault) (whole : Outcome (List A)) → false ≡ is_next f ts → Fails e (p ts) → GoesBefore f p front ts whole → Fails e whole
unfolding before
before_fails f p front ts e whole a b (zero, h, q) = absurd (omega arith)
before_fails f p front ts e whole a b (suc k, h, q) =
    let g : Fails e (with_front front (before f p (suc k) ts)) = rw (← a) (fails_on e _ _ (fails_on e _ _ b)) in
    rw q at g

-- ---- lists whose tokens count

with_counted_more : {A : Type 0} (front : List A) (e : A) (o : Outcome (List A × ℕ)) → with_counted_front (front ++ e ∷ []) o ≡ with_counted_front front (and_then o (λ others. pure (e ∷ others.0, others.1)))
with_counted_more front e (Ok x) = ap (λ es. Ok ((es, x.0.1), x.1)) (append_assoc front (e ∷ []) x.0.0)
with_counted_more front e (Err r) = refl

pub with_counted_none : {A : Type 0} (o : Outcome (List A × ℕ)) → with_counted_front [] o ≡ o
with_counted_none (Ok x) = refl
with_counted_none (Err r) = refl

-- what a list is from here on, where so many count before, with these in front, is the whole
abbrev pub GoesOnCounted : {X A : Type 0} → (Token → Option X) → (ℕ → X → Parser (A × ℕ)) → List A → ℕ → List Token → Outcome (List A × ℕ) → Type 0
GoesOnCounted f p front count ts whole = (k : ℕ) × (length ts < k) × (with_counted_front front (many_counted f p k count ts) ≡ whole)

-- what is left of a list after a turn
pub counted_turn : {X A : Type 0} (f : Token → Option X) (p : ℕ → X → Parser (A × ℕ)) (front : List A) (count j : ℕ) (ts us vs : List Token) (x : X) (e : A) (whole : Outcome (List A × ℕ)) → Some (x, us) ≡ next_by f ts → count < most_tokens → p (count + 1) x us ≡ Ok ((e, j), vs) → length vs < length ts
    → GoesOnCounted f p front count ts whole → GoesOnCounted f p (front ++ e ∷ []) j vs whole
unfolding many_counted
counted_turn f p front count j ts us vs x e whole a m b l (zero, h, q) = absurd (omega (arith, h))
counted_turn f p front count j ts us vs x e whole a m b l (suc k, h, q) = (k, omega (arith, h, l), with_counted_more front e (many_counted f p k j vs) ∙ (rw (← a, lt-ltb count most_tokens m, b) at q))

-- a list ends before another token
pub counted_end : {X A : Type 0} (f : Token → Option X) (p : ℕ → X → Parser (A × ℕ)) (front : List A) (count : ℕ) (ts : List Token) (whole : Outcome (List A × ℕ)) → None ≡ next_by f ts → GoesOnCounted f p front count ts whole → whole ≡ Ok ((front, count), ts)
unfolding many_counted
counted_end f p front count ts whole a (zero, h, q) = absurd (omega (arith, h))
counted_end f p front count ts whole a (suc k, h, q) = sym (rw (← a, append-nil) at q)

-- a fault in an item is one of the list
pub counted_fails : {X A : Type 0} (f : Token → Option X) (p : ℕ → X → Parser (A × ℕ)) (front : List A) (count : ℕ) (ts us : List Token) (x : X) (e : Fault) (whole : Outcome (List A × ℕ)) → Some (x, us) ≡ next_by f ts → count < most_tokens → Fails e (p (count + 1) x us) → GoesOnCounted f p front count ts whole → Fails e whole
unfolding many_counted
counted_fails f p front count ts us x e whole a m b (zero, h, q) = absurd (omega (arith, h))
counted_fails f p front count ts us x e whole a m b (suc k, h, q) =
    let g : Fails e (with_counted_front front (many_counted f p (suc k) count ts)) = rw (← a, lt-ltb count most_tokens m) (fails_on e _ _ (fails_on e _ _ b)) in
    rw q at g

-- a token is one too many
pub counted_full : {X A : Type 0} (f : Token → Option X) (p : ℕ → X → Parser (A × ℕ)) (front : List A) (count : ℕ) (ts us : List Token) (x : X) (whole : Outcome (List A × ℕ)) → Some (x, us) ≡ next_by f ts → most_tokens ≤ count → GoesOnCounted f p front count ts whole → whole ≡ Err (Tokens, ts)
unfolding many_counted
counted_full f p front count ts us x whole a m (zero, h, q) = absurd (omega (arith, h))
counted_full f p front count ts us x whole a m (suc k, h, q) = sym (rw (← a, le-ltb count most_tokens m) at q)
