-- What is read within limit 4 follows the grammar with that limit.
use Rattle.std.proofs.Common.{◌≡◌, ℕ, ◌+◌, ◌-◌, ◌<◌, ◌≤◌, inl, inr, Bool, true, false, cond, length, take, drop, List, [], ◌∷◌, ◌++◌, Ok, Err, Some, refl, sym, ap, subst, arith, append_assoc, ◌∙◌, length-append, length-take}
use Rattle.std.proofs.Math.Dec.{ltb}
use Rattle.std.proofs.lemmas.Bool.{lt-ltb, le-ltb, ltb-true, ltb-false}
use Rattle.std.proofs.lemmas.List.{take-append-drop, drop-append-le}
use Rattle.std.proofs.Math.Seq.{drop-append_seam}
use Rattle.vl_tree.specs.declared.token.Token.{Token}
use Rattle.vl_tree.specs.Reading as plain
use Rattle.vl_tree.proofs.Follows as pf
use Rattle.vl_tree.proofs.Follows.{next, next_behind, Free, Fits, fits_split}
use Rattle.vl_tree.specs.declared.source_fault.Cause.{Cause}
use Rattle.vl_tree.specs.declared.source_fault.Cause.TheVariants as c
use Rattle.vl_tree.specs.Bounds.{MayReach, most_tokens}
use Rattle.vl_tree.specs.Parsers.{limited, taken, unlimited}
use Rattle.vl_tree.proofs.FollowsOfSource.{Relation, Follows, Took, Stuck, bounds, Spare, ok_parts, err_parts}

-- ---- lists in two parts

-- a longer rest has its own front in front of the shorter one
pub split_at : (f g y r : List Token) → g ++ r ≡ f ++ y → length y ≤ length r → (x : List Token) × (f ≡ g ++ x) × (r ≡ x ++ y)
split_at f [] y r h l = (f, refl, h)
split_at [] (v ∷ g) y r h l = absurd (omega (arith, ap length h, length-append g r))
split_at (w ∷ f) (v ∷ g) y r h l = let i : v ≡ w = cc in let j : g ++ r ≡ f ++ y = cc in let d = split_at f g y r j l in (d.0, ap (λ z. z ∷ f) (sym i) ∙ ap (λ z. v ∷ z) d.1, d.2)

fits_front : (ts f r y : List Token) → 0 < length f → ts ≡ f ++ r → Fits ts (f ++ y)
fits_front ts [] r y h e = absurd (omega arith)
fits_front ts (v ∷ f) r y h e = inl (ap next e)

-- ---- limit 4

pub reach_counted : (s t : Bool) (u : ℕ) (ts rest : List Token) → length ts ≤ length rest + most_tokens → MayReach (bounds s t u) ts rest
reach_counted s true u ts rest h = inl (omega (arith, h))
reach_counted s false u ts rest h = inl tt

pub reach_spare : (s t : Bool) (u : ℕ) (front ts rest : List Token) → length front ≤ most_tokens → Spare s t u ts → MayReach (bounds s t u) (front ++ ts) rest
reach_spare s true u front ts rest h (inl e) = inr (omega (arith, h, e, length-append front ts))
reach_spare s true u front ts rest h (inr e) = let z : ⊥ = cc e.1 in absurd z
reach_spare s false u front ts rest h e = inl tt

pub reach_lacking : (s t : Bool) (u : ℕ) (ts rest : List Token) → t ≡ false → MayReach (bounds s t u) ts rest
reach_lacking s t u ts rest h = rw h (inl tt)

-- ---- what is read within it

taken_left : {A : Type 0} (ts : List Token) (o : plain.Outcome A) → taken ts o ≡ length ts - pf.left o
taken_left ts (Ok x) = refl
taken_left ts (Err us) = refl

unlimited_ok : {A : Type 0} (o : plain.Outcome A) (a : A) (rest : List Token) → unlimited o ≡ Ok (a, rest) → o ≡ Ok (a, rest)
unlimited_ok (Ok x) a rest h = ap Ok (ok_parts h)
unlimited_ok (Err us) a rest h = let z : ⊥ = cc in absurd z

unlimited_err : {A : Type 0} (o : plain.Outcome A) (cause : Cause) (rest : List Token) → unlimited o ≡ Err (cause, rest) → (o ≡ Err rest) × (c.Syntax ≡ cause)
unlimited_err (Ok x) cause rest h = let z : ⊥ = cc in absurd z
unlimited_err (Err us) cause rest h = (ap (λ x. Err x.1) (err_parts h), ap (λ x. x.0) (err_parts h))

module _ {A : Type 0} (most : ℕ) (p : plain.Parser A) where
  pub limited_ok : (ts : List Token) (a : A) (rest : List Token) → p ts ≡ Ok (a, rest) → length ts ≤ length rest + most → limited most p ts ≡ Ok (a, rest)
  unfolding limited
  limited_ok ts a rest h l = rw (h, le-ltb most (length ts - length rest) (omega (arith, l))) refl

  pub limited_err : (ts rest : List Token) → p ts ≡ Err rest → length ts ≤ length rest + most → limited most p ts ≡ Err (c.Syntax, rest)
  unfolding limited
  limited_err ts rest h l = rw (h, le-ltb most (length ts - length rest) (omega (arith, l))) refl

  pub limited_past : (ts : List Token) → pf.left (p ts) + most < length ts → limited most p ts ≡ Err (c.Tokens, drop most ts)
  unfolding limited
  limited_past ts l = rw (taken_left ts (p ts), lt-ltb most (length ts - pf.left (p ts)) (omega (arith, l))) refl

-- where p reaches doesn't depend on what stands behind the token that it reaches
module _ {A : Type 0} (R : A → List Token → List Token → Type 0) (p : plain.Parser A) (l : pf.Follows R p) (f : List Token) (x : Token) (us vs : List Token) where
  moved : (ts g r z : List Token) → ts ≡ g ++ r → f ≡ g ++ z → r ≡ z ++ x ∷ vs → ts ≡ f ++ x ∷ vs
  moved ts g r z i j h = rw (i, j, h, append_assoc) refl

  reaching_at : (o : plain.Outcome A) → p (f ++ x ∷ vs) ≡ o → (b : Bool) → ltb (pf.left o) (length (x ∷ vs)) ≡ b → pf.left (p (f ++ x ∷ us)) < length (x ∷ us) → pf.left o < length (x ∷ vs)
  reaching_at o e true h s = ltb-true (pf.left o) (length (x ∷ vs)) h
  reaching_at (Ok y) e false h s =
      let k = l.took (f ++ x ∷ vs) y.0 y.1 e in
      let d = split_at f k.front (x ∷ vs) y.1 (sym k.split) (ltb-false (length y.1) (length (x ∷ vs)) h) in
      let i : p (k.front ++ (d.0 ++ x ∷ us)) ≡ Ok (y.0, d.0 ++ x ∷ us) = k.same (d.0 ++ x ∷ us) (ap next d.2 ∙ next_behind d.0 (x ∷ vs) (x ∷ us) refl) in
      let j : k.front ++ (d.0 ++ x ∷ us) ≡ f ++ x ∷ us = sym (append_assoc k.front d.0 (x ∷ us)) ∙ ap (λ z. z ++ x ∷ us) (sym d.1) in
      let w : pf.left (p (f ++ x ∷ us)) ≡ length (d.0 ++ x ∷ us) = ap pf.left (ap p (sym j) ∙ i) in
      absurd (omega (arith, s, w, length-append d.0 (x ∷ us)))
  reaching_at (Err y) e false h s =
      let k = l.stuck (f ++ x ∷ vs) y e in
      let d = split_at f k.front (x ∷ vs) y (sym k.split) (ltb-false (length y) (length (x ∷ vs)) h) in
      let i : p (k.front ++ (d.0 ++ x ∷ us)) ≡ Err (d.0 ++ x ∷ us) = k.same (d.0 ++ x ∷ us) (ap next d.2 ∙ next_behind d.0 (x ∷ vs) (x ∷ us) refl) in
      let j : k.front ++ (d.0 ++ x ∷ us) ≡ f ++ x ∷ us = sym (append_assoc k.front d.0 (x ∷ us)) ∙ ap (λ z. z ++ x ∷ us) (sym d.1) in
      let w : pf.left (p (f ++ x ∷ us)) ≡ length (d.0 ++ x ∷ us) = ap pf.left (ap p (sym j) ∙ i) in
      absurd (omega (arith, s, w, length-append d.0 (x ∷ us)))

  pub reaching : pf.left (p (f ++ x ∷ us)) < length (x ∷ us) → pf.left (p (f ++ x ∷ vs)) < length (x ∷ vs)
  reaching s = reaching_at (p (f ++ x ∷ vs)) refl (ltb (pf.left (p (f ++ x ∷ vs))) (length (x ∷ vs))) refl s

-- what is read, within limit 4
abbrev pub Within : {A : Type 0} → (A → List Token → List Token → Type 0) → Relation A
Within R b a ts rest = R a ts rest × MayReach b ts rest

module _ {A : Type 0} (R : A → List Token → List Token → Type 0) (p : plain.Parser A) (l : pf.Follows R p) where
  limited_took : (ts : List Token) (a : A) (rest : List Token) (b : Bool) → ltb most_tokens (taken ts (p ts)) ≡ b → cond b (Err (c.Tokens, drop most_tokens ts)) (unlimited (p ts)) ≡ Ok (a, rest) → Took (Within R) (limited most_tokens p) ts a rest
  limited_took ts a rest true e h = let z : ⊥ = cc in absurd z
  limited_took ts a rest false e h =
      let i = unlimited_ok (p ts) a rest h in
      let k = l.took ts a rest i in
      let few : length k.front ≤ most_tokens = omega (arith, ltb-false most_tokens (taken ts (p ts)) e, ap (taken ts) i, ap length k.split, length-append k.front rest) in
      record {
        front = k.front;
        split = k.split;
        reads = λ s t u o w. (k.reads o w, reach_counted s t u (k.front ++ o) o (omega (arith, few, length-append k.front o)));
        same = λ o n. limited_ok most_tokens p (k.front ++ o) a o (k.same o n) (omega (arith, few, length-append k.front o));
      }

  -- the fault of what is limited is that of p
  plain_stuck : (ts rest : List Token) → p ts ≡ Err rest → length ts ≤ length rest + most_tokens → Stuck (Within R) (limited most_tokens p) ts c.Syntax rest
  plain_stuck ts rest i n =
      let k = l.stuck ts rest i in
      let few : length k.front ≤ most_tokens = omega (arith, n, ap length k.split, length-append k.front rest) in
      record {
        front = k.front;
        split = k.split;
        more = k.more;
        found = k.found;
        begins = λ s t u o z y. (k.begins o y, reach_spare s t u k.front (k.more ++ o) o few z);
        fits = λ o y. fits_split ts k.front rest (k.more ++ o) k.split (inr (k.free o y));
        same = λ o n. limited_err most_tokens p (k.front ++ o) o (k.same o n) (omega (arith, few, length-append k.front o));
        beyond = λ i. absurd i;
      }

  -- p reaches x, the first token past the limit
  module _ (ts f : List Token) (x : Token) (g m r : List Token) (a : A) (split : ts ≡ f ++ x ∷ (g ++ r)) (most : length f ≡ most_tokens) (reads : (other : List Token) → Free (next other) → R a (f ++ x ∷ (g ++ (m ++ other))) other) (past : pf.left (p ts) + most_tokens < length ts) where
    past_same : (o : List Token) → Some x ≡ next o → limited most_tokens p (f ++ o) ≡ Err (c.Tokens, o)
    past_same [] n = let z : ⊥ = cc in absurd z
    past_same (y ∷ vs) n =
        let e : x ≡ y = cc in
        let i : pf.left (p (f ++ x ∷ (g ++ r))) < length (x ∷ (g ++ r)) = rw (← split) (omega (arith, past, most, ap length split, length-append f (x ∷ (g ++ r)))) in
        let j : pf.left (p (f ++ y ∷ vs)) < length (y ∷ vs) = subst (λ z. pf.left (p (f ++ z ∷ vs)) < length (z ∷ vs)) e (reaching R p l f x (g ++ r) vs i) in
        limited_past most_tokens p (f ++ y ∷ vs) (omega (arith, j, most, length-append f (y ∷ vs)))
        ∙ ap (λ z. Err (c.Tokens, z)) (ap (λ z. drop z (f ++ y ∷ vs)) (sym most) ∙ drop-append_seam f (y ∷ vs))

    past_stuck : Stuck (Within R) (limited most_tokens p) ts c.Tokens (x ∷ (g ++ r))
    past_stuck = record {
      front = f;
      split = split;
      more = x ∷ (g ++ m);
      found = a;
      begins = λ s t u o z y. (rw append_assoc (reads o y), reach_spare s t u f (x ∷ (g ++ m) ++ o) o (omega (arith, most)) z);
      fits = λ o y. fits_front ts f (x ∷ (g ++ r)) (x ∷ (g ++ m) ++ o) (omega (arith, most)) split;
      same = λ o n. past_same o n;
      beyond = λ i. record {
        token = x;
        after = g ++ r;
        here = refl;
        more = g ++ m;
        found = a;
        begins = λ s t u h o z y. (rw append_assoc (reads o y), reach_lacking s t u (f ++ x ∷ ((g ++ m) ++ o)) o h);
      };
    }

  -- what p has read or would read, of the tokens from the first past the limit on
  past_by : (ts w m r : List Token) (a : A) → ts ≡ w ++ r → most_tokens < length w → ((other : List Token) → Free (next other) → R a (w ++ (m ++ other)) other) → pf.left (p ts) + most_tokens < length ts → (d : List Token) → drop most_tokens w ≡ d → Stuck (Within R) (limited most_tokens p) ts c.Tokens (drop most_tokens ts)
  past_by ts w m r a split more reads past [] e = absurd (omega (arith, more, ap length (take-append-drop most_tokens w), length-append (take most_tokens w) (drop most_tokens w), ap length e, length-take most_tokens w))
  past_by ts w m r a split more reads past (x ∷ g) e =
      let i : take most_tokens w ++ x ∷ g ≡ w = ap (λ z. take most_tokens w ++ z) (sym e) ∙ take-append-drop most_tokens w in
      let j : drop most_tokens ts ≡ x ∷ (g ++ r) = ap (drop most_tokens) split ∙ (drop-append-le most_tokens w r (omega (arith, more)) ∙ ap (λ z. z ++ r) e) in
      let h : length (take most_tokens w) ≡ most_tokens = omega (arith, more, length-take most_tokens w) in
      subst (λ z. Stuck (Within R) (limited most_tokens p) ts c.Tokens z) (sym j)
      (past_stuck ts (take most_tokens w) x g m r a (split ∙ (ap (λ z. z ++ r) (sym i) ∙ append_assoc (take most_tokens w) (x ∷ g) r)) h
      (λ o y. let q = reads o y in let v : w ++ (m ++ o) ≡ take most_tokens w ++ x ∷ (g ++ (m ++ o)) = ap (λ z. z ++ (m ++ o)) (sym i) ∙ append_assoc (take most_tokens w) (x ∷ g) (m ++ o) in subst (λ z. R a z o) v q) past)

  past_at : (ts : List Token) (o : plain.Outcome A) → p ts ≡ o → pf.left o + most_tokens < length ts → Stuck (Within R) (limited most_tokens p) ts c.Tokens (drop most_tokens ts)
  past_at ts (Ok y) e h = let k = l.took ts y.0 y.1 e in past_by ts k.front [] y.1 y.0 k.split (omega (arith, h, ap length k.split, length-append k.front y.1)) (λ o w. k.reads o (inr w)) (rw e h) (drop most_tokens k.front) refl
  past_at ts (Err y) e h = let k = l.stuck ts y e in past_by ts k.front k.more y k.found k.split (omega (arith, h, ap length k.split, length-append k.front y)) k.begins (rw e h) (drop most_tokens k.front) refl

  limited_stuck : (ts : List Token) (cause : Cause) (rest : List Token) (b : Bool) → ltb most_tokens (taken ts (p ts)) ≡ b → cond b (Err (c.Tokens, drop most_tokens ts)) (unlimited (p ts)) ≡ Err (cause, rest) → Stuck (Within R) (limited most_tokens p) ts cause rest
  limited_stuck ts cause rest true e h =
      let i : most_tokens < length ts - pf.left (p ts) = rw (← taken_left ts (p ts)) (ltb-true most_tokens (taken ts (p ts)) e) in
      subst (λ z. Stuck (Within R) (limited most_tokens p) ts z.0 z.1) (err_parts h) (past_at ts (p ts) refl (omega (arith, i)))
  limited_stuck ts cause rest false e h =
      let i = unlimited_err (p ts) cause rest h in
      let few : length ts ≤ length rest + most_tokens = omega (arith, ltb-false most_tokens (taken ts (p ts)) e, ap (taken ts) i.0) in
      subst (λ z. Stuck (Within R) (limited most_tokens p) ts z rest) i.1 (plain_stuck ts rest i.0 few)

  pub follows_limited : Follows (Within R) (limited most_tokens p)
  unfolding limited
  follows_limited = record {
    took = λ ts a rest h. limited_took ts a rest (ltb most_tokens (taken ts (p ts))) refl h;
    stuck = λ ts cause rest h. limited_stuck ts cause rest (ltb most_tokens (taken ts (p ts))) refl h;
    word = l.word;
    value = l.value;
    some = λ s t u o z y. (l.some o y, reach_spare s t u [] (l.word ++ o) o (omega arith) z);
    word_free = l.word_free;
  }
