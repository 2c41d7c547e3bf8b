-- The reach of tokens, and what is read there.
use Rattle.std.proofs.Common.{◌≡◌, ℕ, ◌+◌, ◌-◌, ◌<◌, ◌≤◌, length, List, [], ◌∷◌, ◌++◌, take, drop, Ok, Err, refl, sym, ap, arith, ◌∙◌, append_assoc, append-nil, length-append, length-drop, length-take}
use Rattle.std.specs.List.{slice_range}
use Rattle.std.proofs.Math.Nat.{add-sub_cancel_left}
use Rattle.std.proofs.Math.Seq.{take-append_seam}
use Rattle.std.proofs.lemmas.List.{take-append-drop, append_cancel_left}
use Rattle.std.proofs.lemmas.List.Folds.{drop_split}
use Rattle.vl_tree.specs.declared.token.Token.{Token}
use Rattle.vl_tree.specs.declared.tree.Expression.{Expression}
use Rattle.vl_tree.specs.Begins.{IsExpression, BeginsExpression, IsReach}
use Rattle.vl_tree.specs.Reading.{Outcome}
use Rattle.vl_tree.specs.Expressions.{expr}
use Rattle.vl_tree.proofs.Reaching.{Reaches, took_reaches, stuck_reaches, only_one, begins_less}

-- ---- slices

pub slice_front : (tokens : List Token) (from : ℕ) (front back : List Token) → drop from tokens ≡ front ++ back → slice_range tokens from (from + length front) ≡ front
slice_front tokens from front back e = rw (add-sub_cancel_left from (length front), e) (take-append_seam front back)

-- the first k + 1 tokens of what begins an expression
pub slice_begins : (tokens : List Token) (from : ℕ) (front back : List Token) → drop from tokens ≡ front ++ back → BeginsExpression front → (k : ℕ) → from ≤ k → k < from + length front → BeginsExpression (slice_range tokens from (k + 1))
slice_begins tokens from front back e d k a b = at (k + 1 - from) (omega arith) (omega arith)
  where
    at : (c : ℕ) → from + c ≡ k + 1 → c ≤ length front → BeginsExpression (slice_range tokens from (k + 1))
    at c i j =
        let cut : take c front ++ drop c front ≡ front = take-append-drop c front in
        let size : length (take c front) ≡ c = omega (arith, length-take c front) in
        let s : slice_range tokens from (from + length (take c front)) ≡ take c front = slice_front tokens from (take c front) (drop c front ++ back) (e ∙ (ap (λ z. z ++ back) (sym cut) ∙ append_assoc (take c front) (drop c front) back)) in
        let w : slice_range tokens from (k + 1) ≡ take c front = ap (slice_range tokens from) (sym i ∙ ap (λ z. from + z) (sym size)) ∙ s in
        rw w (begins_less (take c front) (drop c front) (rw cut d))

-- ---- the reach

module _ (tokens : List Token) (from : ℕ) (low : from ≤ length tokens) where
  -- what is read of the first of the tokens, or of all, stops at their reach
  pub reach_of : (ts front rest tail : List Token) → drop from tokens ≡ ts ++ tail → Reaches ts front rest → (rest ≡ [] → tail ≡ []) → IsReach tokens from (from + length front)
  reach_of ts front rest tail e r last =
      let whole : drop from tokens ≡ front ++ (rest ++ tail) = e ∙ (ap (λ z. z ++ tail) r.split ∙ append_assoc front rest tail) in
      let size : length tokens ≡ from + (length front + length (rest ++ tail)) = omega (arith, length-drop from tokens, ap length whole, length-append front (rest ++ tail)) in
      record {
        starts = omega arith;
        within = omega arith;
        before = λ k a b. slice_begins tokens from front (rest ++ tail) whole r.begins k a b;
        here = λ h d. here rest refl whole h d;
      }
    where
      here : (y : List Token) → rest ≡ y → drop from tokens ≡ front ++ (rest ++ tail) → from + length front < length tokens → BeginsExpression (slice_range tokens from (from + length front + 1)) → ⊥
      here [] i whole h d =
          let none : length (rest ++ tail) ≡ 0 = ap length (ap (λ z. z ++ tail) i ∙ last i) in
          absurd (omega (arith, length-drop from tokens, ap length whole, length-append front (rest ++ tail)))
      here (u ∷ us) i whole h d =
          let longer : drop from tokens ≡ (front ++ (u ∷ [])) ++ (us ++ tail) = whole ∙ (ap (λ z. front ++ (z ++ tail)) i ∙ sym (append_assoc front (u ∷ []) (us ++ tail))) in
          let s = slice_front tokens from (front ++ (u ∷ [])) (us ++ tail) longer in
          let size : from + length (front ++ (u ∷ [])) ≡ from + length front + 1 = omega (arith, length-append front (u ∷ [])) in
          r.stops u us i (rw (sym (ap (slice_range tokens from) size) ∙ s) at d)

  -- there is one reach
  pub reach_once : (i j : ℕ) → IsReach tokens from i → IsReach tokens from j → i ≡ j
  reach_once i j a b =
      let up : i < j → ⊥ = λ h. a.here (omega (arith, b.within)) (b.before i a.starts h) in
      let down : j < i → ⊥ = λ h. b.here (omega (arith, a.within)) (a.before j b.starts h) in
      omega (arith, up, down)

  -- ---- what is read of all tokens, by their reach

  module _ (n : ℕ) (room : length (drop from tokens) + 1 < n) (i : ℕ) (r : IsReach tokens from i) where
    halves : (front rest : List Token) → Reaches (drop from tokens) front rest → (slice_range tokens from i ≡ front) × (drop i tokens ≡ rest)
    halves front rest q =
        let same : from + length front ≡ i = reach_once (from + length front) i (reach_of (drop from tokens) front rest [] (sym (append-nil (drop from tokens))) q (λ e. refl)) r in
        let s : slice_range tokens from i ≡ front = ap (slice_range tokens from) (sym same) ∙ slice_front tokens from front rest q.split in
        (s, append_cancel_left front (drop i tokens) rest (ap (λ z. z ++ drop i tokens) (sym s) ∙ (sym (drop_split tokens from i r.starts) ∙ q.split)))

    read_at : (e : Expression) → IsExpression e (slice_range tokens from i) → (o : Outcome Expression) → expr n (drop from tokens) ≡ o → o ≡ Ok (e, drop i tokens)
    read_at e d (Ok x) h =
        let k = took_reaches (drop from tokens) n room x.0 x.1 h in
        let s = halves k.0 x.1 k.1 in
        let y : IsExpression e k.0 = rw s.0 at d in
        ap (λ z. Ok (z, x.1)) (only_one k.0 k.2 y) ∙ ap (λ z. Ok (e, z)) (sym s.1)
    read_at e d (Err rest) h =
        let k = stuck_reaches (drop from tokens) n room rest h in
        let s = halves k.0 rest k.1 in
        absurd (k.2 e (rw s.0 at d))

    -- where the tokens up to their reach are an expression, it is read
    pub reach_reads : (e : Expression) → IsExpression e (slice_range tokens from i) → expr n (drop from tokens) ≡ Ok (e, drop i tokens)
    reach_reads e d = read_at e d (expr n (drop from tokens)) refl

    fails_at : ((e : Expression) → IsExpression e (slice_range tokens from i) → ⊥) → (o : Outcome Expression) → expr n (drop from tokens) ≡ o → o ≡ Err (drop i tokens)
    fails_at d (Ok x) h =
        let k = took_reaches (drop from tokens) n room x.0 x.1 h in
        let s = halves k.0 x.1 k.1 in
        absurd (d x.0 (rw s.0 k.2))
    fails_at d (Err rest) h =
        let k = stuck_reaches (drop from tokens) n room rest h in
        ap Err (sym (halves k.0 rest k.1).1)

    -- where they are none, the fault is there
    pub reach_fails : ((e : Expression) → IsExpression e (slice_range tokens from i) → ⊥) → expr n (drop from tokens) ≡ Err (drop i tokens)
    reach_fails d = fails_at d (expr n (drop from tokens)) refl
