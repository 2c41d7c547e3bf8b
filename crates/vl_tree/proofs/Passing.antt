-- What the functions of a parser give, step by step.
use Rattle.std.proofs.Common.{◌≡◌, ℕ, zero, suc, ◌<◌, length, List, [], ◌∷◌, ◌++◌, Result, Ok, Err, Option, Some, None, Bor, refl, sym, ap, arith, append_assoc, append-nil, ◌∙◌}
use Rattle.std.specs.Result.{IsErrAnd}
use Rattle.std.proofs.lemmas.Result.{err_from_is_err_and}
use Rattle.vl_tree.specs.declared.token.Token.{Token}
use Rattle.vl_tree.specs.declared.fault.Fault.{Fault}
use Rattle.vl_tree.specs.declared.fault.Fault.TheVariants as fault
use Rattle.vl_tree.specs.Reading.{Outcome, Parser, and_then, pure, with_front, next_by, many, Fails, Gives}

-- a fault stands, whatever were to come behind
pub fails_on : {A B : Type 0} (e : Fault) (o : Outcome A) (f : A → Parser B) → Fails e o → Fails e (and_then o f)
fails_on (fault.At ts) o f h = rw h refl
fails_on fault.Memory o f h = tt

-- a `?` hands a fault on
pub passed : {A : Type 0} (r : Result (A × Bor (List Token)) Fault) (e : Fault) (o : Outcome A) → IsErrAnd r (λ x. x ≡ e) → Fails e o → Gives r o
passed r e o h g = let p = err_from_is_err_and r h in rw (p.1, p.2) g

-- a `?` hands a fault on, whatever were to come behind
pub hands_on : {A B : Type 0} (r : Result (B × Bor (List Token)) Fault) (e : Fault) (o : Outcome A) (f : A → Parser B) → IsErrAnd r (λ x. x ≡ e) → Fails e o → Gives r (and_then o f)
hands_on r e o f h g = passed r e _ h (fails_on e o f g)

-- ---- lists

with_front_more : {A : Type 0} (front : List A) (e : A) (o : Outcome (List A)) → with_front (front ++ e ∷ []) o ≡ with_front front (and_then o (λ es. pure (e ∷ es)))
with_front_more front e (Ok x) = ap (λ es. Ok (es, x.1)) (append_assoc front (e ∷ []) x.0)
with_front_more front e (Err r) = refl

pub with_front_none : {A : Type 0} (o : Outcome (List A)) → with_front [] o ≡ o
with_front_none (Ok x) = refl
with_front_none (Err r) = refl

-- what a list is from here on, with these in front, is the whole
abbrev pub GoesOn : {X A : Type 0} → (Token → Option X) → (X → Parser A) → List A → List Token → Outcome (List A) → Type 0
GoesOn f p front ts whole = (k : ℕ) × (length ts < k) × (with_front front (many f p k ts) ≡ whole)

-- what is left of a list after a turn
pub many_turn : {X A : Type 0} (f : Token → Option X) (p : X → Parser A) (front : List A) (ts us vs : List Token) (x : X) (e : A) (whole : Outcome (List A)) → Some (x, us) ≡ next_by f ts → p x us ≡ Ok (e, vs) → length vs < length ts
    → GoesOn f p front ts whole → GoesOn f p (front ++ e ∷ []) vs whole
unfolding many
many_turn f p front ts us vs x e whole a b l (zero, h, q) = absurd (omega arith)
many_turn f p front ts us vs x e whole a b l (suc k, h, q) = (k, omega arith, with_front_more front e (many f p k vs) ∙ (rw (← a, b) at q))

-- a list ends before another token
pub many_end : {X A : Type 0} (f : Token → Option X) (p : X → Parser A) (front : List A) (ts : List Token) (whole : Outcome (List A)) → None ≡ next_by f ts → GoesOn f p front ts whole → whole ≡ Ok (front, ts)
unfolding many
many_end f p front ts whole a (zero, h, q) = absurd (omega arith)
many_end f p front ts whole a (suc k, h, q) = sym (rw (← a, append-nil) at q)

-- a fault in an item is one of the list
pub many_fails : {X A : Type 0} (f : Token → Option X) (p : X → Parser A) (front : List A) (ts us : List Token) (x : X) (e : Fault) (whole : Outcome (List A)) → Some (x, us) ≡ next_by f ts → Fails e (p x us) → GoesOn f p front ts whole → Fails e whole
unfolding many
many_fails f p front ts us x e whole a b (zero, h, q) = absurd (omega arith)
many_fails f p front ts us x e whole a b (suc k, h, q) =
    let g : Fails e (with_front front (many f p (suc k) ts)) = rw (← a) (fails_on e _ _ (fails_on e _ _ b)) in
    rw q at g
