-- What is read of a window of the tokens, said of the tokens.
use Rattle.std.proofs.Common.{◌≡◌, ℕ, ◌+◌, ◌-◌, ◌<◌, ◌≤◌, ◌⊎◌, inl, inr, length, List, [], ◌∷◌, ◌++◌, take, drop, Result, Ok, Err, refl, sym, ap, arith, ◌∙◌, append_assoc, length-append, length-drop, length-take, min}
use Rattle.std.specs.List.{slice_range}
use Rattle.std.specs.Result.{IfOk}
use Rattle.std.proofs.lemmas.List.{take-append-drop}
use Rattle.vl_tree.specs.vl_base.specs.declared.place.Place.{Place}
use Rattle.vl_tree.specs.declared.token.Token.{Token}
use Rattle.vl_tree.specs.declared.tree.Expression.{Expression}
use Rattle.vl_tree.specs.Begins.{IsExpression, IsReach, place_at}
use Rattle.vl_tree.specs.Expressions.{expr}
use Rattle.vl_tree.proofs.Reaching.{Reaches, took_reaches, stuck_reaches, only_one}
use Rattle.vl_tree.proofs.Reached.{slice_front, slice_begins, reach_of, reach_once}
use Rattle.vl_pexpr.specs.declared.parse.TheConstants.{MOST_TOKENS}
use Rattle.vl_pexpr.specs.declared.parse.ParseFault.{ParseFault}
use Rattle.vl_pexpr.specs.declared.parse.ParseFault.TheVariants as f
use Rattle.vl_pexpr.specs.Faults.{IsFirstFault, PassesLimit}

-- ---- the reach

module _ (tokens : List Token) (from : ℕ) (low : from ≤ length tokens) where
  -- what passes the limit reaches past it
  passes_reach : (i : ℕ) → PassesLimit tokens from → IsReach tokens from i → i ≤ from + MOST_TOKENS → ⊥
  passes_reach i x r h =
      let n : ℕ = from + MOST_TOKENS + 1 - from in
      let front : List Token = slice_range tokens from (from + MOST_TOKENS + 1) in
      let whole : drop from tokens ≡ front ++ drop n (drop from tokens) = sym (take-append-drop n (drop from tokens)) in
      let size : length front ≡ MOST_TOKENS + 1 = omega (arith, length-take n (drop from tokens), length-drop from tokens, x.within) in
      r.here (omega (arith, x.within)) (slice_begins tokens from front (drop n (drop from tokens)) whole x.begins i r.starts (omega arith))

-- ---- the clauses

pub record Judged (tokens : List Token) (from : ℕ) (end : Place) (r : Result (Expression × ℕ) ParseFault) : Type 0 where
  pub read : IfOk r (λ x. IsExpression x.0 (slice_range tokens from x.1))
  pub only : IfOk r (λ x. (e : Expression) → IsExpression e (slice_range tokens from x.1) → e ≡ x.0)
  pub reach : IfOk r (λ x. IsReach tokens from x.1 × (x.1 ≤ from + MOST_TOKENS))
  pub fault : (p : Place) → r ≡ Err (f.At p) → IsFirstFault tokens from end p
  pub limit : (p : Place) (n : ℕ) → r ≡ Err (f.Limit p n) → PassesLimit tokens from × (p ≡ place_at tokens (from + MOST_TOKENS) end) × (n ≡ 4)
  pub accepts : (e : Expression) (i : ℕ) → IsReach tokens from i → i ≤ from + MOST_TOKENS → IsExpression e (slice_range tokens from i) → (r ≡ Ok (e, i)) ⊎ (r ≡ Err f.Memory)
  pub refuses : (p : Place) → IsFirstFault tokens from end p → (r ≡ Err (f.At p)) ⊎ (r ≡ Err f.Memory)
  pub limits : PassesLimit tokens from → (r ≡ Err (f.Limit (place_at tokens (from + MOST_TOKENS) end) 4)) ⊎ (r ≡ Err f.Memory)

module _ (tokens : List Token) (from : ℕ) (low : from ≤ length tokens) (end : Place) where
  pub memory_judged : Judged tokens from end (Err f.Memory)
  memory_judged = record {
    read = tt;
    only = tt;
    reach = tt;
    fault = λ p h. let z : ⊥ = cc in absurd z;
    limit = λ p n h. let z : ⊥ = cc in absurd z;
    accepts = λ e i r h d. inr refl;
    refuses = λ p x. inr refl;
    limits = λ x. inr refl;
  }

  ok_judged : (e : Expression) (i : ℕ) → IsReach tokens from i → i ≤ from + MOST_TOKENS → IsExpression e (slice_range tokens from i) → Judged tokens from end (Ok (e, i))
  ok_judged e i r h d = record {
    read = d;
    only = λ g x. only_one _ x d;
    reach = (r, h);
    fault = λ p z. let w : ⊥ = cc in absurd w;
    limit = λ p n z. let w : ⊥ = cc in absurd w;
    accepts = λ g j q k x. let s : j ≡ i = reach_once tokens from low j i q r in let y : IsExpression g (slice_range tokens from i) = rw s at x in let t : g ≡ e = only_one _ y d in inl (rw (s, t) refl);
    refuses = λ p x. let s : i ≡ x.index = reach_once tokens from low i x.index r x.reach in absurd (x.wrong e (rw s at d));
    limits = λ x. absurd (passes_reach tokens from low i x r h);
  }

  fault_judged : (p : Place) → IsFirstFault tokens from end p → Judged tokens from end (Err (f.At p))
  fault_judged p x = record {
    read = tt;
    only = tt;
    reach = tt;
    fault = λ q z. let w : p ≡ q = cc in rw w at x;
    limit = λ q n z. let w : ⊥ = cc in absurd w;
    accepts = λ g j q k d. let s : j ≡ x.index = reach_once tokens from low j x.index q x.reach in absurd (x.wrong g (rw s at d));
    refuses = λ q y. let s : x.index ≡ y.index = reach_once tokens from low x.index y.index x.reach y.reach in
        let w : p ≡ q = x.place ∙ (ap (λ i. place_at tokens i end) s ∙ sym y.place) in inl (ap (λ z. Err (f.At z)) w);
    limits = λ y. absurd (passes_reach tokens from low x.index y x.reach x.short);
  }

  pub limit_judged : PassesLimit tokens from → Judged tokens from end (Err (f.Limit (place_at tokens (from + MOST_TOKENS) end) 4))
  limit_judged x = record {
    read = tt;
    only = tt;
    reach = tt;
    fault = λ q z. let w : ⊥ = cc in absurd w;
    limit = λ q n z. (x, (let w : q ≡ place_at tokens (from + MOST_TOKENS) end = cc in w), (let w : n ≡ 4 = cc in w));
    accepts = λ g j r k d. absurd (passes_reach tokens from low j x r k);
    refuses = λ q y. absurd (passes_reach tokens from low y.index x y.reach y.short);
    limits = λ y. inl refl;
  }

  -- ---- by what is read of a window

  module _ (size : ℕ) (small : size ≡ min (length (drop from tokens)) (MOST_TOKENS + 1)) (ts : List Token) (cut : ts ≡ take size (drop from tokens)) where
    whole : drop from tokens ≡ ts ++ drop size (drop from tokens)
    whole = sym (take-append-drop size (drop from tokens)) ∙ ap (λ z. z ++ drop size (drop from tokens)) (sym cut)

    sized : length ts ≡ size
    sized = omega (arith, ap length cut, length-take size (drop from tokens))

    nothing_from : {X : Type 0} (xs : List X) → length xs ≡ 0 → xs ≡ []
    nothing_from [] h = refl
    nothing_from (y ∷ ys) h = absurd (omega arith)

    -- a window within the limit is all there is
    ends : size ≤ MOST_TOKENS → drop size (drop from tokens) ≡ []
    ends h = nothing_from _ (omega (arith, length-drop size (drop from tokens)))

    passes : (front rest : List Token) → Reaches ts front rest → MOST_TOKENS < length front → PassesLimit tokens from
    passes front rest r h =
        let split : length ts ≡ length front + length rest = ap length r.split ∙ length-append front rest in
        let one_more : length front ≡ MOST_TOKENS + 1 = omega (arith, sized) in
        let all : drop from tokens ≡ front ++ (rest ++ drop size (drop from tokens)) = whole ∙ (ap (λ z. z ++ drop size (drop from tokens)) r.split ∙ append_assoc front rest _) in
        let s : slice_range tokens from (from + length front) ≡ front = slice_front tokens from front _ all in
        let at : from + length front ≡ from + MOST_TOKENS + 1 = omega (arith, one_more) in
        record {
          within = omega (arith, sized, length-drop from tokens);
          begins = rw (sym (ap (slice_range tokens from) at) ∙ s) r.begins;
        }

    reaches : (front rest : List Token) → Reaches ts front rest → length front ≤ MOST_TOKENS → IsReach tokens from (from + length front)
    reaches front rest r h = reach_of tokens from low ts front rest _ whole r (λ e.
        let split : length ts ≡ length front + length rest = ap length r.split ∙ length-append front rest in
        let none : length rest ≡ 0 = ap length e in
        ends (omega (arith, sized)))

    slice_read : (front rest : List Token) → Reaches ts front rest → slice_range tokens from (from + length front) ≡ front
    slice_read front rest r = slice_front tokens from front _ (whole ∙ (ap (λ z. z ++ drop size (drop from tokens)) r.split ∙ append_assoc front rest _))

    counted : (front rest : List Token) → Reaches ts front rest → length front ≡ size - length rest
    counted front rest r = omega (arith, sized, ap length r.split, length-append front rest)

    room : length ts + 1 < size + 2
    room = omega (arith, sized)

    pub took_short : (e : Expression) (rest : List Token) → expr (size + 2) ts ≡ Ok (e, rest) → size - length rest ≤ MOST_TOKENS → Judged tokens from end (Ok (e, from + (size - length rest)))
    took_short e rest h l =
        let k = took_reaches ts (size + 2) room e rest h in
        let c = counted k.0 rest k.1 in
        let low' : length k.0 ≤ MOST_TOKENS = omega (arith, c) in
        rw (← c) (ok_judged e (from + length k.0) (reaches k.0 rest k.1 low') (omega arith) (rw (slice_read k.0 rest k.1) k.2))

    pub took_long : (e : Expression) (rest : List Token) → expr (size + 2) ts ≡ Ok (e, rest) → MOST_TOKENS < size - length rest → PassesLimit tokens from
    took_long e rest h l = let k = took_reaches ts (size + 2) room e rest h in passes k.0 rest k.1 (omega (arith, counted k.0 rest k.1))

    pub stuck_short : (rest : List Token) → expr (size + 2) ts ≡ Err rest → size - length rest ≤ MOST_TOKENS → Judged tokens from end (Err (f.At (place_at tokens (from + (size - length rest)) end)))
    stuck_short rest h l =
        let k = stuck_reaches ts (size + 2) room rest h in
        let c = counted k.0 rest k.1 in
        let low' : length k.0 ≤ MOST_TOKENS = omega (arith, c) in
        rw (← c) (fault_judged (place_at tokens (from + length k.0) end) (record {
          index = from + length k.0;
          reach = reaches k.0 rest k.1 low';
          short = omega arith;
          wrong = λ e d. k.2 e (rw (slice_read k.0 rest k.1) at d);
          place = refl;
        }))

    pub stuck_long : (rest : List Token) → expr (size + 2) ts ≡ Err rest → MOST_TOKENS < size - length rest → PassesLimit tokens from
    stuck_long rest h l = let k = stuck_reaches ts (size + 2) room rest h in passes k.0 rest k.1 (omega (arith, counted k.0 rest k.1))

    -- no more is left than there was
    pub stuck_left : (rest : List Token) → expr (size + 2) ts ≡ Err rest → length rest ≤ size
    stuck_left rest h = let k = stuck_reaches ts (size + 2) room rest h in omega (arith, sized, ap length k.1.split, length-append k.0 rest)
