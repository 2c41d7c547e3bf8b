-- How far tokens go on as an expression, by what is read of them.
use Rattle.std.proofs.Common.{◌≡◌, ℕ, ◌+◌, ◌<◌, inl, inr, length, List, [], ◌∷◌, ◌++◌, Ok, Err, sym, ap, arith, ◌∙◌, append_assoc, append-nil, length-append}
use Rattle.std.proofs.lemmas.List.{append_cancel_right}
use Rattle.vl_tree.specs.declared.token.Token.{Token}
use Rattle.vl_tree.specs.declared.tree.Expression.{Expression}
use Rattle.vl_tree.specs.Begins.{IsExpression, BeginsExpression}
use Rattle.vl_tree.specs.Expressions.{expr}
use Rattle.vl_tree.proofs.Follows.{next, ok_parts, left}
use Rattle.vl_tree.proofs.Complete.{reads_expression, ends_nothing}
use Rattle.vl_tree.proofs.Sound.{follows_expr}
use Rattle.vl_tree.proofs.Enough.{expr_agrees}

-- ---- expressions alone

pub read_alone : {e : Expression} (ts : List Token) → IsExpression e ts → (n : ℕ) → length ts + 1 < n → expr n ts ≡ Ok (e, [])
read_alone ts d n h = reads_expression d n h ends_nothing

-- tokens are at most one expression
pub only_one : {e f : Expression} (ts : List Token) → IsExpression e ts → IsExpression f ts → e ≡ f
only_one {e} {f} ts d g = at (length ts + 2) (omega arith)
  where
    at : (n : ℕ) → length ts + 1 < n → e ≡ f
    at n h = ap (λ x. x.0) (ok_parts (sym (read_alone ts d n h) ∙ read_alone ts g n h))

-- what begins an expression does so without its last tokens
pub begins_less : (ts us : List Token) → BeginsExpression (ts ++ us) → BeginsExpression ts
begins_less ts us (more, e, d) = (us ++ more, e, rw (← append_assoc) d)

-- ---- what is read of some tokens

-- of these tokens, front begins an expression, and with the next, if there is one, it begins none
pub record Reaches (ts front rest : List Token) : Type 0 where
  pub split : ts ≡ front ++ rest
  pub begins : BeginsExpression front
  pub stops : (u : Token) (us : List Token) → rest ≡ u ∷ us → BeginsExpression (front ++ u ∷ []) → ⊥

module _ (ts : List Token) (n : ℕ) (room : length ts + 1 < n) where
  took_stops : (e : Expression) (rest front : List Token) → expr n ts ≡ Ok (e, rest) → ts ≡ front ++ rest → (u : Token) (us : List Token) → rest ≡ u ∷ us → BeginsExpression (front ++ u ∷ []) → ⊥
  took_stops e rest front h i u us j (more, f, d) = at (length ts + length (front ++ (u ∷ more)) + 2) (omega arith) (omega arith)
    where
      at : (m : ℕ) → length ts + 1 < m → length (front ++ (u ∷ more)) + 1 < m → ⊥
      at m a b =
          let k = (follows_expr m).took ts e rest (expr_agrees m n ts a room ∙ h) in
          let same : k.front ≡ front = append_cancel_right _ _ rest (sym k.split ∙ i) in
          let lost : expr m (front ++ (u ∷ more)) ≡ Ok (e, u ∷ more) = ap (λ z. expr m (z ++ (u ∷ more))) (sym same) ∙ k.same (u ∷ more) (ap next j) in
          let found : expr m (front ++ (u ∷ more)) ≡ Ok (f, []) = read_alone (front ++ (u ∷ more)) (rw append_assoc at d) m b in
          let z : u ∷ more ≡ [] = ap (λ x. x.1) (ok_parts (sym lost ∙ found)) in
          let w : length (u ∷ more) ≡ 0 = ap length z in
          absurd (omega arith)

  pub took_reaches : (e : Expression) (rest : List Token) → expr n ts ≡ Ok (e, rest) → (front : List Token) × Reaches ts front rest × IsExpression e front
  took_reaches e rest h =
      let k = (follows_expr n).took ts e rest h in
      let whole : IsExpression e k.front = rw append-nil at (k.reads [] (inr tt)) in
      (k.front, record { split = k.split; begins = ([], e, rw append-nil whole); stops = took_stops e rest k.front h k.split }, whole)

  stuck_stops : (rest front : List Token) → expr n ts ≡ Err rest → ts ≡ front ++ rest → (u : Token) (us : List Token) → rest ≡ u ∷ us → BeginsExpression (front ++ u ∷ []) → ⊥
  stuck_stops rest front h i u us j (more, f, d) = at (length ts + length (front ++ (u ∷ more)) + 2) (omega arith) (omega arith)
    where
      at : (m : ℕ) → length ts + 1 < m → length (front ++ (u ∷ more)) + 1 < m → ⊥
      at m a b =
          let k = (follows_expr m).stuck ts rest (expr_agrees m n ts a room ∙ h) in
          let same : k.front ≡ front = append_cancel_right _ _ rest (sym k.split ∙ i) in
          let lost : expr m (front ++ (u ∷ more)) ≡ Err (u ∷ more) = ap (λ z. expr m (z ++ (u ∷ more))) (sym same) ∙ k.same (u ∷ more) (ap next j) in
          let found : expr m (front ++ (u ∷ more)) ≡ Ok (f, []) = read_alone (front ++ (u ∷ more)) (rw append_assoc at d) m b in
          cc (lost, found)

  -- what stands before a fault is no expression
  stuck_none : (rest front : List Token) → expr n ts ≡ Err rest → ts ≡ front ++ rest → (e : Expression) → IsExpression e front → ⊥
  stuck_none rest front h i e d =
      let alone : expr n front ≡ Ok (e, []) = read_alone front d n (omega (arith, ap length i, length-append front rest)) in
      let stuck : expr n (front ++ rest) ≡ Err rest = ap (expr n) (sym i) ∙ h in
      elim ((follows_expr n).whole front e alone rest) [
        | inl g ↦ cc (stuck, g)
        | inr g ↦ (let z : left (expr n (front ++ rest)) ≡ length rest = ap left stuck in absurd (omega arith))
      ]

  pub stuck_reaches : (rest : List Token) → expr n ts ≡ Err rest → (front : List Token) × Reaches ts front rest × ((e : Expression) → IsExpression e front → ⊥)
  stuck_reaches rest h =
      let k = (follows_expr n).stuck ts rest h in (
        k.front,
        record {
          split = k.split;
          begins = (k.more, k.found, (let d = k.begins [] tt in let e : k.front ++ (k.more ++ []) ≡ k.front ++ k.more = ap (λ z. k.front ++ z) (append-nil k.more) in rw e at d));
          stops = stuck_stops rest k.front h k.split;
        },
        stuck_none rest k.front h k.split,
      )
