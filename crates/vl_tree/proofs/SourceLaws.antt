-- What the reading of a source gives: what is read is a source within the limits, a source is read unless it passes a limit,
-- and where the reading stops is the first fault.
use Rattle.std.proofs.Common.{◌≡◌, ℕ, ◌+◌, ◌-◌, ◌<◌, ◌≤◌, ◌⊎◌, inl, inr, Bool, true, false, length, take, drop, List, [], ◌∷◌, ◌++◌, Ok, Err, Some, refl, sym, ap, subst, arith, ◌∙◌, append_assoc, append-nil, length-append}
use Rattle.std.proofs.Math.Seq.{take-append_seam, drop-append_seam}
use Rattle.std.proofs.lemmas.List.{append_cancel_right}
use Rattle.vl_tree.specs.declared.token.Token.{Token}
use Rattle.vl_tree.proofs.Follows.{next}
use Rattle.vl_tree.specs.declared.source_tree.Source.{Source}
use Rattle.vl_tree.specs.declared.source_fault.Cause.{Cause}
use Rattle.vl_tree.specs.declared.source_fault.Cause.TheVariants as c
use Rattle.vl_tree.specs.Bounds.{Bounds, unbounded}
use Rattle.vl_tree.specs.GrammarOfSource.{ReadsSource}
use Rattle.vl_tree.specs.FaultsOfSource.{BeginsSource, limits, statement_limit, expression_limit, IsSyntaxFault, IsPassing}
use Rattle.vl_tree.specs.Parsers.{Outcome, Parser}
use Rattle.vl_tree.specs.Parsing.{all_of, modules, whole, target, outer, source}
use Rattle.vl_tree.proofs.FollowsOfSource.{IsLimit, Lacks, bounds, Spare, ok_parts, err_parts}
use Rattle.vl_tree.proofs.Completing.{Reads, Excused, ExcusedAt}
use Rattle.vl_tree.proofs.Modules.{follows_modules, reads_modules}
use Rattle.vl_tree.proofs.AgreeingSource.{source_agrees}

abbrev all_modules : ℕ → Parser Source
all_modules n = modules (whole n) (target n) n (outer n)

-- ---- all tokens

all_ok : {A : Type 0} (o : Outcome A) (a : A) (rest : List Token) → all_of o ≡ Ok (a, rest) → o ≡ Ok (a, [])
all_ok (Ok (b, [])) a rest h = ap (λ z. Ok (z.0, [])) (ok_parts h)
all_ok (Ok (b, u ∷ us)) a rest h = let z : ⊥ = cc in absurd z
all_ok (Err e) a rest h = let z : ⊥ = cc in absurd z

all_err : {A : Type 0} (o : Outcome A) (cause : Cause) (rest : List Token) → all_of o ≡ Err (cause, rest) → (o ≡ Err (cause, rest)) ⊎ ((a : A) × (v : Token) × (vs : List Token) × (o ≡ Ok (a, v ∷ vs)) × (v ∷ vs ≡ rest) × (c.Syntax ≡ cause))
all_err (Ok (b, [])) cause rest h = let z : ⊥ = cc in absurd z
all_err (Ok (b, u ∷ us)) cause rest h = let e = err_parts h in inr (b, u, us, refl, ap (λ z. z.1) e, ap (λ z. z.0) e)
all_err (Err e) cause rest h = inl (ap Err (err_parts h))

-- a text behind another
front_taken : (front rest : List Token) (i : ℕ) → i ≡ length front → take i (front ++ rest) ≡ front
front_taken front rest i h = rw h (take-append_seam front rest)

front_dropped : (front rest : List Token) (i : ℕ) → i ≡ length front → drop i (front ++ rest) ≡ rest
front_dropped front rest i h = rw h (drop-append_seam front rest)

-- ---- what is read

pub took : (n : ℕ) (ts : List Token) (a : Source) → source n ts ≡ Ok (a, []) → (s t : Bool) (u : ℕ) → ReadsSource (bounds s t u) a ts []
unfolding source
took n ts a h s t u =
    let k = (follows_modules n).took ts a [] (all_ok (all_modules n ts) a [] h) in
    subst (λ z. ReadsSource (bounds s t u) a z []) (sym k.split) (k.reads s t u [] (inl refl))

-- no token is left
pub took_all : (n : ℕ) (ts : List Token) (a : Source) (rest : List Token) → source n ts ≡ Ok (a, rest) → rest ≡ []
unfolding source
took_all n ts a rest h = let e = all_ok (all_modules n ts) a rest h in let i : all_of (all_modules n ts) ≡ Ok (a, []) = rw e refl in ap (λ z. z.1) (ok_parts (sym h ∙ i))

pub complete : (n : ℕ) (s t : Bool) (u : ℕ) (a : Source) (ts : List Token) → ReadsSource (bounds s t u) a ts [] → length ts + 1 < n → (source n ts ≡ Ok (a, [])) ⊎ Excused s t u (source n ts)
unfolding source
complete n s t u a ts d h = at (all_modules n ts) (reads_modules n d h)
  where
    at : (o : Outcome Source) → Reads s t u a [] o → (all_of o ≡ Ok (a, [])) ⊎ Excused s t u (all_of o)
    at o (Reads.read e) = rw e (inl refl)
    at (Ok x) (Reads.excused e) = absurd e
    at (Err x) (Reads.excused e) = inr e

-- ---- where the reading stops

-- what stands before a fault begins a source within any bounds, and where a limit is passed also with the token there, without that limit;
-- other tokens there, of which the first is the same, have the same fault
record Stops (n : ℕ) (ts : List Token) (cause : Cause) (rest : List Token) : Type 0 where
  front : List Token
  split : ts ≡ front ++ rest
  reaches : (more : List Token) × (a : Source) × ((s t : Bool) (u : ℕ) → Spare s t u more → ReadsSource (bounds s t u) a (front ++ more) [])
  passes : IsLimit cause → (x : Token) × (vs : List Token) × (rest ≡ x ∷ vs) × (more : List Token) × (a : Source) × ((s t : Bool) (u : ℕ) → Lacks cause s t → Spare s t u more → ReadsSource (bounds s t u) a (front ++ x ∷ more) [])
  same : (other : List Token) → next rest ≡ next other → source n (front ++ other) ≡ Err (cause, other)

no_limit_passed : (cause : Cause) → c.Syntax ≡ cause → IsLimit cause → ⊥
no_limit_passed cause e h = subst (λ x. IsLimit x) (sym e) h

cut : {cause : Cause} {a : Source} {v : Token} (n : ℕ) (p : List Token) {o : List Token} → Some v ≡ next o → all_modules n p ≡ Ok (a, o) → c.Syntax ≡ cause → all_of (all_modules n p) ≡ Err (cause, o)
cut n p {o = []} g e j = let z : ⊥ = cc in absurd z
cut n p {o = w ∷ ws} g e j = rw (e, ← j) refl

to_nothing : (s t : Bool) (u : ℕ) (a : Source) (x more : List Token) → ReadsSource (bounds s t u) a (x ++ (more ++ [])) [] → ReadsSource (bounds s t u) a (x ++ more) []
to_nothing s t u a x more d = subst (λ z. ReadsSource (bounds s t u) a (x ++ z) []) (append-nil more) d

stops : (n : ℕ) (ts : List Token) (cause : Cause) (rest : List Token) → source n ts ≡ Err (cause, rest) → Stops n ts cause rest
unfolding source
stops n ts cause rest h = elim (all_err (all_modules n ts) cause rest h) [
  | inl e ↦ (let k = (follows_modules n).stuck ts cause rest e in record {
    front = k.front;
    split = k.split;
    reaches = (k.more, k.found, λ s t u z. to_nothing s t u k.found k.front k.more (k.begins s t u [] (rw append-nil z) tt));
    passes = λ l. let b = k.beyond l in (b.token, b.after, b.here, b.more, b.found, λ s t u g z. subst (λ y. ReadsSource (bounds s t u) b.found (k.front ++ b.token ∷ y) []) (append-nil b.more) (b.begins s t u g [] (rw append-nil z) tt));
    same = λ o i. rw (k.same o i) refl;
  })
  | inr (a, v, vs, e, i, j) ↦ (let k = (follows_modules n).took ts a (v ∷ vs) e in record {
    front = k.front;
    split = k.split ∙ ap (λ z. k.front ++ z) i;
    reaches = ([], a, λ s t u z. k.reads s t u [] (inr tt));
    passes = λ l. absurd (no_limit_passed cause j l);
    same = λ o g. cut n _ (ap next i ∙ g) (k.same o (ap next i ∙ g)) j;
  })
]

lacks_both : (cause : Cause) → IsLimit cause → Lacks cause false false
lacks_both c.Syntax l = l
lacks_both c.Statements l = refl
lacks_both c.Tokens l = refl

-- the fault at i, by its cause
abbrev pub FaultAt : List Token → Cause → ℕ → Type 0
FaultAt ts c.Syntax i = IsSyntaxFault ts i
FaultAt ts c.Statements i = IsPassing statement_limit ts i
FaultAt ts c.Tokens i = IsPassing expression_limit ts i

module _ (ts : List Token) (cause : Cause) (rest : List Token) (e : (n : ℕ) → length ts + 1 < n → source n ts ≡ Err (cause, rest)) where
  at : Stops (length ts + 2) ts cause rest
  at = stops (length ts + 2) ts cause rest (e (length ts + 2) (omega arith))

  -- a source that goes on with the same token isn't read
  excused : (s t : Bool) (u : ℕ) (a : Source) (other : List Token) → next rest ≡ next other → ReadsSource (bounds s t u) a (at.front ++ other) [] → ExcusedAt s t u cause other
  excused s t u a other i d =
      let m : ℕ = length ts + length (at.front ++ other) + 2 in
      let k = stops m ts cause rest (e m (omega arith)) in
      let f : k.front ≡ at.front = append_cancel_right k.front at.front rest (sym k.split ∙ at.split) in
      let j : source m (at.front ++ other) ≡ Err (cause, other) = subst (λ z. source m (z ++ other) ≡ Err (cause, other)) f (k.same other i) in
      by (source m (at.front ++ other)) j (complete m s t u a (at.front ++ other) d (omega arith))
    where
      by : (o : Outcome Source) → o ≡ Err (cause, other) → (o ≡ Ok (a, [])) ⊎ Excused s t u o → ExcusedAt s t u cause other
      by o w (inl g) = let z : ⊥ = cc in absurd z
      by (Ok x) w (inr g) = absurd g
      by (Err x) w (inr g) = subst (λ z. ExcusedAt s t u z.0 z.1) (err_parts w) g

  size : length ts ≡ length at.front + length rest
  size = omega (arith, ap length at.split, length-append at.front rest)

  place : ℕ
  place = length ts - length rest

  here : place ≡ length at.front
  unfolding place
  here = omega (arith, size)

  front_is : take place ts ≡ at.front
  front_is = ap (take place) at.split ∙ front_taken at.front rest place here

  begins_with : take place ts ++ [] ≡ at.front
  begins_with = append-nil (take place ts) ∙ front_is

  -- the tokens up to the first of the rest
  one_more : (x : Token) (vs : List Token) → rest ≡ x ∷ vs → take (place + 1) ts ≡ at.front ++ x ∷ []
  one_more x vs i =
      let w : ts ≡ (at.front ++ x ∷ []) ++ vs = at.split ∙ (ap (λ z. at.front ++ z) i ∙ sym (append_assoc at.front (x ∷ []) vs)) in
      ap (take (place + 1)) w ∙ front_taken (at.front ++ x ∷ []) vs (place + 1) (omega (arith, here, length-append at.front (x ∷ [])))

  before : BeginsSource limits (take place ts)
  before = let r = at.reaches in (r.0, r.1, rw front_is (r.2 true true (length r.0) (inl (omega arith))))

  -- with what follows, the tokens up to the first of the rest are no source
  goes_on : (s t : Bool) (u : ℕ) (a : Source) (x : Token) (vs more : List Token) → rest ≡ x ∷ vs → ReadsSource (bounds s t u) a (take (place + 1) ts ++ more) [] → ExcusedAt s t u cause (x ∷ more)
  goes_on s t u a x vs more i d = excused s t u a (x ∷ more) (ap next i) (subst (λ z. ReadsSource (bounds s t u) a z []) (ap (λ z. z ++ more) (one_more x vs i) ∙ append_assoc at.front (x ∷ []) more) d)

  nothing_left : place ≡ length ts → rest ≡ []
  unfolding place
  nothing_left i = none rest (omega (arith, size, i))
    where
      none : (y : List Token) → length y ≡ 0 → y ≡ []
      none [] w = refl
      none (v ∷ vs) w = absurd (omega (arith, w))

  syntax : c.Syntax ≡ cause → IsSyntaxFault ts place
  unfolding place
  syntax i = record {
    within = omega (arith, size);
    before = before;
    here = λ l (more, a, d). at_some rest refl l more a d;
    at_end = λ l a d. absurd (along _ (excused false false 0 a rest refl (subst (λ z. ReadsSource unbounded a z []) at.split d)));
  }
    where
      along : (us : List Token) → ExcusedAt false false 0 cause us → ⊥
      along us w = subst (λ z. ExcusedAt false false 0 z us) (sym i) w

      at_some : (y : List Token) → rest ≡ y → place < length ts → (more : List Token) (a : Source) → ReadsSource unbounded a (take (place + 1) ts ++ more) [] → ⊥
      at_some [] j l more a d = absurd (omega (arith, l, here, size, ap length j))
      at_some (x ∷ vs) j l more a d = along _ (goes_on false false 0 a x vs more j d)

  passing : (within : ℕ → Bounds) → IsLimit cause → ((x : Token) (vs more : List Token) (a : Source) → rest ≡ x ∷ vs → ReadsSource (within (length more)) a (take (place + 1) ts ++ more) [] → ⊥) → IsPassing within ts place
  unfolding place
  passing within l never = let k = at.passes l in record {
    inside = omega (arith, size, ap length k.2);
    before = before;
    begins = (k.3, k.4, subst (λ z. ReadsSource unbounded k.4 z []) (sym (append_assoc at.front (k.0 ∷ []) k.3) ∙ ap (λ z. z ++ k.3) (sym (one_more k.0 k.1 k.2))) (k.5 false false 0 (lacks_both cause l) (inr (refl, refl))));
    passes = λ (more, a, d). never k.0 k.1 more a k.2 d;
  }

  -- a token behind which the rest isn't counted is counted
  counted : (b : Bool) (x : Token) (more : List Token) → b ≡ true → (b ≡ false) ⊎ ((0 < length (x ∷ more)) × (length (x ∷ more) ≤ length more)) → ⊥
  counted b x more i (inl j) = cc (i, j)
  counted b x more i (inr j) = omega (arith, j.1)

  fault : FaultAt ts cause (length ts - length rest)
  unfolding place
  fault = by cause refl
    where
      by : (q : Cause) → q ≡ cause → FaultAt ts q place
      by c.Syntax i = syntax i
      by c.Statements i = passing statement_limit (subst (λ z. IsLimit z) i tt) (λ x vs more a j d. counted true x more refl (subst (λ z. ExcusedAt true false (length more) z (x ∷ more)) (sym i) (goes_on true false (length more) a x vs more j d)))
      by c.Tokens i = passing expression_limit (subst (λ z. IsLimit z) i tt) (λ x vs more a j d. counted true x more refl (subst (λ z. ExcusedAt false true (length more) z (x ∷ more)) (sym i) (goes_on false true (length more) a x vs more j d)))

  left_over : (rest ≡ drop (length ts - length rest) ts) × (length rest ≤ length ts)
  unfolding place
  left_over = (sym (ap (drop place) at.split ∙ front_dropped at.front rest place here), omega (arith, size))

-- the reading of these tokens halts with this cause and with this rest
pub record Halts (ts : List Token) (cause : Cause) (rest : List Token) : Type 0 where
  pub front : List Token
  pub split : ts ≡ front ++ rest
  pub reaches : (more : List Token) × (a : Source) × ((s t : Bool) (u : ℕ) → Spare s t u more → ReadsSource (bounds s t u) a (front ++ more) [])
  pub passes : IsLimit cause → (x : Token) × (vs : List Token) × (rest ≡ x ∷ vs) × (more : List Token) × (a : Source) × ((s t : Bool) (u : ℕ) → Lacks cause s t → Spare s t u more → ReadsSource (bounds s t u) a (front ++ x ∷ more) [])
  pub excuse : (s t : Bool) (u : ℕ) (a : Source) (other : List Token) → next rest ≡ next other → ReadsSource (bounds s t u) a (front ++ other) [] → ExcusedAt s t u cause other

module _ (n : ℕ) (ts : List Token) (h : length ts + 1 < n) (cause : Cause) (rest : List Token) (e : source n ts ≡ Err (cause, rest)) where
  always : (m : ℕ) → length ts + 1 < m → source m ts ≡ Err (cause, rest)
  always m g = source_agrees m n ts g h ∙ e

  pub halts : Halts ts cause rest
  halts = let k = at ts cause rest always in record { front = k.front; split = k.split; reaches = k.reaches; passes = k.passes; excuse = λ s t u a o i d. excused ts cause rest always s t u a o i d }

  -- where the reading stops is the first fault, and what is left are the tokens from it on
  pub stuck : (rest ≡ drop (length ts - length rest) ts) × (length rest ≤ length ts) × FaultAt ts cause (length ts - length rest)
  stuck = let l = left_over ts cause rest always in (l.0, l.1, fault ts cause rest always)
