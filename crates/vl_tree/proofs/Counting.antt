-- Tokens that count together, as those of a left side: what is read behind them follows the grammar within limit 4,
-- and what the grammar derives is read, or the reading stops at a token that is one too many.
use Rattle.std.proofs.Common.{◌≡◌, ℕ, zero, suc, ◌+◌, ◌<◌, ◌⊎◌, inl, inr, Bool, true, false, cond, List, [], ◌∷◌, ◌++◌, Ok, Err, Option, Some, None, refl, sym, ap, subst, arith, ◌∙◌}
use Rattle.std.proofs.Math.Dec.{ltb}
use Rattle.std.proofs.lemmas.Bool.{ltb-true, ltb-false}
use Rattle.vl_tree.specs.declared.token.Token.{Token}
use Rattle.vl_tree.specs.Reading.{next_by}
use Rattle.vl_tree.proofs.Follows.{next, next_behind, Free, next_by_some, next_by_here, next_by_next}
use Rattle.vl_tree.specs.declared.source_fault.Cause.{Cause}
use Rattle.vl_tree.specs.declared.source_fault.Cause.TheVariants as c
use Rattle.vl_tree.specs.Bounds.{Bounds, MayCount, most_tokens}
use Rattle.vl_tree.specs.Parsers.{Outcome, Parser, fails, next_or, if_next, if_counted, must_counted, many_counted}
use Rattle.vl_tree.proofs.FollowsOfSource.{Relation, Follows, Took, Stuck, Either, bounds, Spare, spare_tail, err_parts, follows_weaker, follows_within, follows_same, follows_pure, follows_fault, follows_bind, follows_if}
use Rattle.vl_tree.proofs.Completing.{Reads}

-- ---- bounds

pub count_within : (s t : Bool) (u k : ℕ) (ts : List Token) → k < most_tokens → MayCount (bounds s t u) (k + 1) ts
count_within s true u k ts h = inr (omega (arith, h))
count_within s false u k ts h = inr tt

count_lacking : (s t : Bool) (u k : ℕ) (ts : List Token) → t ≡ false → MayCount (bounds s t u) k ts
count_lacking s t u k ts h = rw h (inr tt)

pub count_spare : (s t : Bool) (u k : ℕ) (ts : List Token) → Spare s t u ts → MayCount (bounds s t u) k ts
count_spare s t u k ts (inl h) = inl h
count_spare s t u k ts (inr h) = count_lacking s t u k ts h.1

-- ---- what is read behind such a token

-- such a token stands first, and may count
abbrev pub AfterCounted : {X A : Type 0} → ℕ → (Token → Option X) → (Token → X → Relation A) → Relation A
AfterCounted {X} k f R b a ts rest = (v : Token) × (us : List Token) × (x : X) × (ts ≡ v ∷ us) × (f v ≡ Some x) × MayCount b (k + 1) (v ∷ us) × R v x b a us rest

abbrev pub EitherCounted : {X A : Type 0} → ℕ → (Token → Option X) → (Token → X → Relation A) → Relation A → Relation A
EitherCounted k f R Q b a ts rest = AfterCounted k f R b a ts rest ⊎ Q b a ts rest

module _ {X A : Type 0} (k : ℕ) (f : Token → Option X) (R : Token → X → Relation A) (Q : Relation A) (p : X → Parser A) (q : Parser A) (l : (v : Token) (x : X) → f v ≡ Some x → Follows (R v x) (p x)) (r : Follows Q q) where
  counted_too : k < most_tokens → (s t : Bool) (u : ℕ) (a : A) (ts rest : List Token) → Either f R Q (bounds s t u) a ts rest → EitherCounted k f R Q (bounds s t u) a ts rest
  counted_too h s t u a ts rest (inl (v, us, x, e, i, d)) = inl (v, us, x, e, i, count_within s t u k (v ∷ us) h, d)
  counted_too h s t u a ts rest (inr d) = inr d

  few : ltb k most_tokens ≡ true → Follows (EitherCounted k f R Q) (if_counted k f p q)
  few h = follows_same {p = if_next f p q} (λ ts. rw h refl) (follows_within (counted_too (ltb-true k most_tokens h)) (follows_if f R Q p q l r))

  -- such a token is one too many
  module _ (full : ltb k most_tokens ≡ false) where
    full_same : (v : Token) (x : X) → f v ≡ Some x → (other : List Token) → Some v ≡ next other → if_counted k f p q other ≡ Err (c.Tokens, other)
    full_same v x h [] n = let z : ⊥ = cc in absurd z
    full_same v x h (w ∷ ws) n = let e : v ≡ w = cc in rw (next_by_here f w ws x (ap f (sym e) ∙ h), full) refl

    full_took : (ts : List Token) (a : A) (rest : List Token) (o : Option (X × List Token)) → next_by f ts ≡ o → next_or o (λ x us. cond (ltb k most_tokens) (p x us) (Err (c.Tokens, ts))) (q ts) ≡ Ok (a, rest) → Took (EitherCounted k f R Q) (if_counted k f p q) ts a rest
    full_took ts a rest (Some y) e h = let z : Err (c.Tokens, ts) ≡ Ok (a, rest) = rw full at h in let w : ⊥ = cc z in absurd w
    full_took ts a rest None e h = let g = r.took ts a rest h in record {
      front = g.front;
      split = g.split;
      reads = λ s t u o w. inr (g.reads s t u o w);
      same = λ o n. rw (next_by_next f ts (g.front ++ o) (ap next g.split ∙ next_behind g.front _ _ n) e) (g.same o n);
    }

    one_too_many : (ts : List Token) (y : X × List Token) → next_by f ts ≡ Some y → Stuck (EitherCounted k f R Q) (if_counted k f p q) ts c.Tokens ts
    one_too_many ts y e = let v = next_by_some f ts y.1 y.0 e in let m = l v.0 y.0 v.2 in record {
      front = [];
      split = refl;
      more = r.word;
      found = r.value;
      begins = λ s t u o z w. inr (r.some s t u o z w);
      fits = λ o w. inr (r.word_free o w);
      same = λ o n. full_same v.0 y.0 v.2 o (sym (ap next v.1) ∙ n);
      beyond = λ i. record {
        token = v.0;
        after = y.1;
        here = v.1;
        more = m.word;
        found = m.value;
        begins = λ s t u g o z w. inl (v.0, m.word ++ o, y.0, refl, v.2, count_lacking s t u (k + 1) (v.0 ∷ (m.word ++ o)) g, m.some s t u o z w);
      };
    }

    full_stuck : (ts : List Token) (cause : Cause) (rest : List Token) (o : Option (X × List Token)) → next_by f ts ≡ o → next_or o (λ x us. cond (ltb k most_tokens) (p x us) (Err (c.Tokens, ts))) (q ts) ≡ Err (cause, rest) → Stuck (EitherCounted k f R Q) (if_counted k f p q) ts cause rest
    full_stuck ts cause rest (Some y) e h = let z : ◌≡◌ {A = Outcome A} (Err (c.Tokens, ts)) (Err (cause, rest)) = rw full at h in subst (λ x. Stuck (EitherCounted k f R Q) (if_counted k f p q) ts x.0 x.1) (err_parts z) (one_too_many ts y e)
    full_stuck ts cause rest None e h = let g = r.stuck ts cause rest h in record {
      front = g.front;
      split = g.split;
      more = g.more;
      found = g.found;
      begins = λ s t u o z w. inr (g.begins s t u o z w);
      fits = g.fits;
      same = λ o n. rw (next_by_next f ts (g.front ++ o) (ap next g.split ∙ next_behind g.front _ _ n) e) (g.same o n);
      beyond = λ i. let b = g.beyond i in record {
        token = b.token;
        after = b.after;
        here = b.here;
        more = b.more;
        found = b.found;
        begins = λ s t u h o z w. inr (b.begins s t u h o z w);
      };
    }

    many : Follows (EitherCounted k f R Q) (if_counted k f p q)
    many = record {
      took = λ ts a rest e. full_took ts a rest (next_by f ts) refl e;
      stuck = λ ts cause rest e. full_stuck ts cause rest (next_by f ts) refl e;
      word = r.word;
      value = r.value;
      some = λ s t u o z y. inr (r.some s t u o z y);
      word_free = r.word_free;
    }

  pub follows_counted : Follows (EitherCounted k f R Q) (if_counted k f p q)
  follows_counted = by (ltb k most_tokens) refl
    where
      by : (b : Bool) → ltb k most_tokens ≡ b → Follows (EitherCounted k f R Q) (if_counted k f p q)
      by true h = few h
      by false h = many h

-- a token that f takes has to come: v is one
module _ {X A : Type 0} (k : ℕ) (f : Token → Option X) (R : Token → X → Relation A) (p : X → Parser A) (l : (v : Token) (x : X) → f v ≡ Some x → Follows (R v x) (p x)) (v : Token) (x : X) (here : f v ≡ Some x) (free : Free (Some v)) where
  pub follows_must_counted : Follows (AfterCounted k f R) (must_counted k f p)
  follows_must_counted = let m = l v x here in follows_weaker (λ b a ts rest h. elim h [ inl d ↦ d | inr d ↦ d ])
      (follows_counted k f R (AfterCounted k f R) p fails l
      (follows_fault (AfterCounted k f R) (v ∷ m.word) m.value (λ s t u o z y. (v, m.word ++ o, x, refl, here, count_spare s t u (k + 1) (v ∷ (m.word ++ o)) z, m.some s t u o (spare_tail s t u v (m.word ++ o) z) y)) (λ o y. free)))

module _ {X A : Type 0} (f : Token → Option X) (R : ℕ → Token → X → Relation (A × ℕ)) (Q : ℕ → Relation (List A × ℕ)) (p : ℕ → X → Parser (A × ℕ)) (l : (k : ℕ) (v : Token) (x : X) → f v ≡ Some x → Follows (R k v x) (p k x))
    (end : (b : Bounds) (k : ℕ) (ts : List Token) → Q k b ([], k) ts ts)
    (more : (b : Bounds) (k : ℕ) (v : Token) (x : X) (e : A × ℕ) (es : List A × ℕ) (ts us rest : List Token) → f v ≡ Some x → MayCount b (k + 1) (v ∷ ts) → R (k + 1) v x b e ts us → Q e.1 b es us rest → Q k b (e.0 ∷ es.0, es.1) (v ∷ ts) rest) where
  pub follows_many_counted : (n k : ℕ) → Follows (Q k) (many_counted f p n k)
  unfolding many_counted
  follows_many_counted zero k = follows_fault (Q k) [] ([], k) (λ s t u o z y. end (bounds s t u) k o) (λ o y. y)
  follows_many_counted (suc n) k = follows_weaker (λ b es ts rest h. elim h [
    | inl (v, us, x, i, d, w, (e, vs, r, (fs, ws, q, (j, g)))) ↦ rw (i, j, ← g) (more b k v x e fs us vs ws d w r q)
    | inr (j, g) ↦ rw (j, g) (end b k rest)
  ])
      (follows_counted k f _ _ _ _ (λ v x h. follows_bind (R (k + 1) v x) _ (p (k + 1) x) _ (l (k + 1) v x h) (λ e. follows_bind (Q e.1) _ (many_counted f p n e.1) _ (follows_many_counted n e.1) (λ es. follows_pure (e.0 ∷ es.0, es.1)))) (follows_pure ([], k)))

-- ---- what the grammar derives

excused_there : {A : Type 0} (s t : Bool) (u k : ℕ) (a : A) (v : Token) (us rest : List Token) → ltb k most_tokens ≡ false → MayCount (bounds s t u) (k + 1) (v ∷ us) → Reads {A = A} s t u a rest (Err (c.Tokens, v ∷ us))
excused_there s t u k a v us rest h (inl g) = Reads.excused (inr (omega arith, g))
excused_there s true u k a v us rest h (inr g) = absurd (omega (arith, ltb-false k most_tokens h, g))
excused_there s false u k a v us rest h (inr g) = Reads.excused (inl refl)

pub reads_counted : {X A : Type 0} {s t : Bool} {u : ℕ} {a : A} {rest : List Token} (k : ℕ) (f : Token → Option X) (p : X → Parser A) (q : Outcome A) (v : Token) (us : List Token) (x : X) → f v ≡ Some x → MayCount (bounds s t u) (k + 1) (v ∷ us) → Reads s t u a rest (p x us)
    → Reads s t u a rest (next_or (next_by f (v ∷ us)) (λ y ws. cond (ltb k most_tokens) (p y ws) (Err (c.Tokens, v ∷ us))) q)
reads_counted {X} {A} {s} {t} {u} {a} {rest} k f p q v us x h w g = rw (next_by_here f v us x h) (by (ltb k most_tokens) refl)
  where
    by : (b : Bool) → ltb k most_tokens ≡ b → Reads s t u a rest (cond (ltb k most_tokens) (p x us) (Err (c.Tokens, v ∷ us)))
    by true e = rw e g
    by false e = rw e (excused_there s t u k a v us rest e w)
