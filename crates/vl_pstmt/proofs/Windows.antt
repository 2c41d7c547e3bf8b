-- What is read within a limit is decided by as many tokens as it allows and one more.
use Rattle.std.proofs.Common.{◌≡◌, ℕ, zero, suc, ◌+◌, ◌-◌, ◌<◌, ◌≤◌, Bool, true, false, cond, ltb, length, List, [], ◌∷◌, ◌++◌, take, drop, Result, Ok, Err, Bor, refl, sym, ap, arith, ◌∙◌, append_assoc, length-append, length-take, length-drop, min}
use Rattle.std.proofs.lemmas.Bool.{ltb-true, ltb-false, lt-ltb, le-ltb}
use Rattle.std.proofs.lemmas.List.{take-append-drop, take_min}
use Rattle.std.proofs.Math.Seq.{take-append-add, drop-append_seam}
use Rattle.std.specs.Result.{IfOk}
use Rattle.vl_tree.specs.declared.token.Token.{Token}
use Rattle.vl_tree.specs.declared.fault.Fault.{Fault}
use Rattle.vl_tree.specs.declared.fault.Fault.TheVariants as fault
use Rattle.vl_tree.specs.Reading.{Outcome, Parser, Gives}
use Rattle.vl_tree.proofs.Follows.{Follows, next, left, no_longer}
use Rattle.vl_tree.specs.declared.source_fault.Cause.TheVariants.{Syntax, Tokens}
use Rattle.vl_tree.specs.Parsers.{taken, limited, unlimited}
use Rattle.vl_pstmt.specs.Limits.{window, moved, narrowed, LeavesOf}

-- what is left
abbrev remains : {A : Type 0} → Outcome A → List Token
remains (Ok x) = x.1
remains (Err us) = us

-- what was read before what is left, and the same is read where the same token follows
record Stable {A : Type 0} (p : Parser A) (ts : List Token) (o : Outcome A) : Type 0 where
  pub front : List Token
  pub split : ts ≡ front ++ remains o
  pub same : (other : List Token) → next (remains o) ≡ next other → p (front ++ other) ≡ moved o other

remains_moved : {A : Type 0} (o : Outcome A) (us : List Token) → remains (moved o us) ≡ us
remains_moved (Ok x) us = refl
remains_moved (Err e) us = refl

taken_is : {A : Type 0} (ts : List Token) (o : Outcome A) → taken ts o ≡ length ts - length (remains o)
taken_is ts (Ok x) = refl
taken_is ts (Err e) = refl

next_more : (r d : List Token) → (length r ≡ 0 → d ≡ []) → next r ≡ next (r ++ d)
next_more [] d h = ap next (sym (h refl))
next_more (u ∷ r) d h = refl

next_take : (n : ℕ) (r : List Token) → 0 < n → next r ≡ next (take n r)
next_take zero r h = absurd (omega arith)
next_take (suc n) [] h = refl
next_take (suc n) (u ∷ r) h = refl

nothing_from : {X : Type 0} (xs : List X) → length xs ≡ 0 → xs ≡ []
nothing_from [] h = refl
nothing_from (y ∷ ys) h = absurd (omega arith)

-- ---- by what is read of the window

module _ {A : Type 0} (most : ℕ) (ts us : List Token) (o : Outcome A) (size : ℕ) where
  pub took_within : (a : A) → size ≡ length (window most ts) → o ≡ Ok (a, us) → size - length us ≤ most → narrowed most ts o ≡ Ok (a, drop (size - length us) ts)
  took_within a s h l = rw (h, ← s, le-ltb most (size - length us) l) refl

  pub took_past : (a : A) → size ≡ length (window most ts) → o ≡ Ok (a, us) → most < size - length us → narrowed most ts o ≡ Err (Tokens, drop most ts)
  took_past a s h l = rw (h, ← s, lt-ltb most (size - length us) l) refl

  pub stuck_within : size ≡ length (window most ts) → o ≡ Err us → size - length us ≤ most → narrowed most ts o ≡ Err (Syntax, drop (size - length us) ts)
  stuck_within s h l = rw (h, ← s, le-ltb most (size - length us) l) refl

  pub stuck_past : size ≡ length (window most ts) → o ≡ Err us → most < size - length us → narrowed most ts o ≡ Err (Tokens, drop most ts)
  stuck_past s h l = rw (h, ← s, lt-ltb most (size - length us) l) refl

pub take_least : {A : Type 0} (xs : List A) (n : ℕ) → take (min (length xs) n) xs ≡ take n xs
take_least xs n = let e : min (length xs) n ≡ min n (length xs) = omega arith in ap (λ k. take k xs) e ∙ take_min n xs

-- ---- by what is read of all tokens

module _ {A : Type 0} {R : A → List Token → List Token → Type 0} (p : Parser A) (f : Follows R p) where
  stable : (ts : List Token) (o : Outcome A) → p ts ≡ o → Stable p ts o
  stable ts (Ok x) h = let k = f.took ts x.0 x.1 h in record { front = k.front; split = k.split; same = k.same }
  stable ts (Err e) h = let k = f.stuck ts e h in record { front = k.front; split = k.split; same = k.same }

  counted : (ts : List Token) (o : Outcome A) (s : Stable p ts o) → taken ts o ≡ length s.front
  counted ts o s = omega (arith, taken_is ts o, ap length s.split, length-append s.front (remains o))

  module _ (most : ℕ) (ts : List Token) where
    cut : ts ≡ window most ts ++ drop (most + 1) ts
    cut = sym (take-append-drop (most + 1) ts)

    short : (o : Outcome A) → p (window most ts) ≡ o → taken (window most ts) o ≤ most → p ts ≡ moved o (drop (taken (window most ts) o) ts)
    short o h l =
        let s = stable (window most ts) o h in
        let c = counted (window most ts) o s in
        let d : List Token = drop (most + 1) ts in
        let whole : ts ≡ s.front ++ (remains o ++ d) = cut ∙ (ap (λ z. z ++ d) s.split ∙ append_assoc s.front (remains o) d) in
        let ends : length (remains o) ≡ 0 → d ≡ [] = λ e. nothing_from d (omega (arith, c, l, ap length s.split, length-append s.front (remains o), length-take (most + 1) ts, length-drop (most + 1) ts)) in
        let behind : drop (taken (window most ts) o) ts ≡ remains o ++ d = ap (λ n. drop n ts) c ∙ (ap (drop (length s.front)) whole ∙ drop-append_seam s.front (remains o ++ d)) in
        ap p whole ∙ (s.same (remains o ++ d) (next_more (remains o) d ends) ∙ ap (moved o) (sym behind))

    long : (o : Outcome A) → p (window most ts) ≡ o → most < taken (window most ts) o → (w : Outcome A) → p ts ≡ w → taken ts w ≤ most → ⊥
    long o h l w g m =
        let s = stable ts w g in
        let c = counted ts w s in
        let k : ℕ = most + 1 - length s.front in
        let e : most + 1 ≡ length s.front + k = omega (arith, c, m) in
        let cuts : window most ts ≡ s.front ++ take k (remains w) = ap (λ n. take n ts) e ∙ (ap (take (length s.front + k)) s.split ∙ take-append-add s.front (remains w) k) in
        let same : o ≡ moved w (take k (remains w)) = sym h ∙ (ap p cuts ∙ s.same (take k (remains w)) (next_take k (remains w) (omega (arith, c, m)))) in
        let rest : remains o ≡ take k (remains w) = ap remains same ∙ remains_moved w (take k (remains w)) in
        omega (arith, l, c, m, taken_is (window most ts) o, ap length rest, ap length cuts, length-append s.front (take k (remains w)))

    go : (b : Bool) → ltb most (taken (window most ts) (p (window most ts))) ≡ b
        → cond (ltb most (taken ts (p ts))) (Err (Tokens, drop most ts)) (unlimited (p ts)) ≡ cond b (Err (Tokens, drop most ts)) (unlimited (moved (p (window most ts)) (drop (taken (window most ts) (p (window most ts))) ts)))
    go true e =
        let l = ltb-true _ _ e in
        let t : ltb most (taken ts (p ts)) ≡ true = at (ltb most (taken ts (p ts))) refl in
        rw t refl
      where
        at : (b : Bool) → ltb most (taken ts (p ts)) ≡ b → b ≡ true
        at true h = refl
        at false h = absurd (long (p (window most ts)) refl (ltb-true _ _ e) (p ts) refl (ltb-false _ _ h))
    go false e =
        let l : taken (window most ts) (p (window most ts)) ≤ most = ltb-false _ _ e in
        let o : Outcome A = p (window most ts) in
        let q : p ts ≡ moved o (drop (taken (window most ts) o) ts) = short o refl l in
        let n : taken ts (moved o (drop (taken (window most ts) o) ts)) ≤ most = omega (arith, l, taken_is ts (moved o (drop (taken (window most ts) o) ts)), ap length (remains_moved o (drop (taken (window most ts) o) ts)), length-drop (taken (window most ts) o) ts) in
        let t : ltb most (taken ts (p ts)) ≡ false = le-ltb _ _ (rw q n) in
        rw (t, q) refl

    pub narrows : (us : List Token) → us ≡ window most ts → limited most p ts ≡ narrowed most ts (p us)
    unfolding limited
    narrows us e = go (ltb most (taken (window most ts) (p (window most ts)))) refl ∙ ap (λ z. narrowed most ts (p z)) (sym e)

  -- no more is left than there was
  pub leaves : (r : Result (A × Bor (List Token)) Fault) (ts : List Token) → Gives r (p ts) → IfOk r (λ x. length x.1.now < length ts) → LeavesOf (length ts) r
  leaves (Ok x) ts g h = h
  leaves (Err (fault.At us)) ts g h = omega (arith, no_longer p f ts, ap left g)
  leaves (Err fault.Memory) ts g h = tt
