-- A parser follows a relation: what it reads is related, it looks one token ahead, and where it finds a fault,
-- the tokens before it begin something that is related.
use Rattle.std.proofs.Common.{◌≡◌, ℕ, zero, suc, ◌<◌, ◌≤◌, ◌⊎◌, inl, inr, Bool, true, false, cond, length, List, [], ◌∷◌, ◌++◌, Result, Ok, Err, Option, Some, None, refl, sym, ap, arith, append_assoc, append-nil, ◌∙◌, length-append}
use Rattle.std.specs.Prelude.{codes}
use Rattle.std.specs.Str.{bytes_eq}
use Rattle.vl_base.specs.declared.place.Place.{Place}
use Rattle.vl_tree.specs.declared.token.Token.{Token}
use Rattle.vl_tree.specs.declared.token.TokenKind.TheVariants as k
use Rattle.vl_tree.specs.MarksOfGrammar.{IsKeyword}
use Rattle.vl_tree.specs.Grammar.{first_place}
use Rattle.vl_tree.specs.Reading.{Outcome, Parser, and_then, ◌>>=◌, pure, fails, if_next, must, next_or, next_by, behind, many, placed, is_next, if_ahead, mark}
use Rattle.vl_tree.proofs.MarkLemmas.{mark_here}

-- the token that comes first, if one does
abbrev pub next : List Token → Option Token
next [] = None
next (u ∷ us) = Some u

pub next_behind : (x r s : List Token) → next r ≡ next s → next (x ++ r) ≡ next (x ++ s)
next_behind [] r s h = h
next_behind (u ∷ x) r s h = refl

-- what may come behind anything: all but an `else`
abbrev pub Free : Option Token → Type 0
Free None = Unit {0}
Free (Some u) = IsKeyword (codes "else") u → ⊥

-- other may take the place of rest behind what was read
abbrev pub Fits : List Token → List Token → Type 0
Fits rest other = (next rest ≡ next other) ⊎ Free (next other)

pub fits_behind : (x rest other : List Token) → Fits rest other → Fits (x ++ rest) (x ++ other)
fits_behind [] rest other f = f
fits_behind (u ∷ x) rest other f = inl refl

pub fits_split : (us x rest other : List Token) → us ≡ x ++ rest → Fits rest other → Fits us (x ++ other)
fits_split us x rest other e f = rw e (fits_behind x rest other f)

-- a was read from ts, and rest is left; the same is read where other tokens follow, of which the first is the same
pub record Took {A : Type 0} (R : A → List Token → List Token → Type 0) (p : Parser A) (ts : List Token) (a : A) (rest : List Token) : Type 0 where
  pub front : List Token
  pub split : ts ≡ front ++ rest
  pub reads : (other : List Token) → Fits rest other → R a (front ++ other) other
  pub same : (other : List Token) → next rest ≡ next other → p (front ++ other) ≡ Ok (a, other)

-- rest is what is left at a fault: what stands before it begins something, and the same fault comes where the same token follows
pub record Stuck {A : Type 0} (R : A → List Token → List Token → Type 0) (p : Parser A) (ts : List Token) (rest : List Token) : Type 0 where
  pub front : List Token
  pub split : ts ≡ front ++ rest
  pub more : List Token
  pub found : A
  pub begins : (other : List Token) → Free (next other) → R found (front ++ (more ++ other)) other
  pub free : (other : List Token) → Free (next other) → Free (next (more ++ other))
  pub same : (other : List Token) → next rest ≡ next other → p (front ++ other) ≡ Err other

-- how many tokens are left
abbrev pub left : {A : Type 0} → Outcome A → ℕ
left (Ok x) = length x.1
left (Err ts) = length ts

-- what reads all of some tokens reads the same before others, or goes on with those
abbrev pub GoesOn : {A : Type 0} → Parser A → List Token → A → List Token → Type 0
GoesOn p ts a rest = (p (ts ++ rest) ≡ Ok (a, rest)) ⊎ (left (p (ts ++ rest)) < length rest)

pub record Follows {A : Type 0} (R : A → List Token → List Token → Type 0) (p : Parser A) : Type 0 where
  pub took : (ts : List Token) (a : A) (rest : List Token) → p ts ≡ Ok (a, rest) → Took R p ts a rest
  pub stuck : (ts rest : List Token) → p ts ≡ Err rest → Stuck R p ts rest
  pub whole : (ts : List Token) (a : A) → p ts ≡ Ok (a, []) → (rest : List Token) → GoesOn p ts a rest
  pub word : List Token
  pub value : A
  pub some : (other : List Token) → Free (next other) → R value (word ++ other) other
  pub word_free : (other : List Token) → Free (next other) → Free (next (word ++ other))

-- what is left is no longer
module _ {A : Type 0} {R : A → List Token → List Token → Type 0} (p : Parser A) (l : Follows R p) (ts : List Token) where
  no_longer_at : (o : Outcome A) → p ts ≡ o → left o ≤ length ts
  no_longer_at (Ok x) e = let k = l.took ts x.0 x.1 e in omega (arith, ap length k.split, length-append k.front x.1)
  no_longer_at (Err r) e = let k = l.stuck ts r e in omega (arith, ap length k.split, length-append k.front r)

  pub no_longer : left (p ts) ≤ length ts
  no_longer = no_longer_at (p ts) refl

-- ---- weaker relations

pub ok_parts : {A E : Type 0} {x y : A × List Token} → ◌≡◌ {A = Result (A × List Token) E} (Ok x) (Ok y) → x ≡ y
ok_parts h = cc

pub follows_weaker : {A : Type 0} {R Q : A → List Token → List Token → Type 0} {p : Parser A} → ((a : A) (ts rest : List Token) → R a ts rest → Q a ts rest) → Follows R p → Follows Q p
follows_weaker w f = record {
  took = λ ts a rest h. let k = f.took ts a rest h in record { front = k.front; split = k.split; reads = λ o y. w _ _ _ (k.reads o y); same = k.same };
  stuck = λ ts rest h. let k = f.stuck ts rest h in record { front = k.front; split = k.split; more = k.more; found = k.found; begins = λ o y. w _ _ _ (k.begins o y); free = k.free; same = k.same };
  whole = f.whole;
  word = f.word;
  value = f.value;
  some = λ o y. w _ _ _ (f.some o y);
  word_free = f.word_free;
}

-- ---- nothing is read

abbrev pub Nothing : {A : Type 0} → A → A → List Token → List Token → Type 0
Nothing a b ts rest = (b ≡ a) × (ts ≡ rest)

pub follows_pure : {A : Type 0} (a : A) → Follows (Nothing a) (pure a)
follows_pure a = record {
  took = λ ts b rest h. let e : a ≡ b = ap (λ x. x.0) (ok_parts h) in let k : ts ≡ rest = ap (λ x. x.1) (ok_parts h) in record { front = []; split = k; reads = λ o y. (sym e, refl); same = λ o n. ap (λ x. Ok (x, o)) e };
  stuck = λ ts rest h. let e : ⊥ = cc in absurd e;
  whole = λ ts b h rest. let e : a ≡ b = ap (λ x. x.0) (ok_parts h) in let k : ts ≡ [] = ap (λ x. x.1) (ok_parts h) in inl (rw (e, k) refl);
  word = [];
  value = a;
  some = λ o y. (refl, refl);
  word_free = λ o y. y;
}

-- a parser that always faults, where something can stand
pub follows_fault : {A : Type 0} (R : A → List Token → List Token → Type 0) (word : List Token) (a : A) → ((other : List Token) → Free (next other) → R a (word ++ other) other) → ((other : List Token) → Free (next other) → Free (next (word ++ other))) → Follows R fails
follows_fault R word a some free = record {
  took = λ ts b rest h. let e : ⊥ = cc in absurd e;
  stuck = λ ts rest h. let e : ts ≡ rest = cc in record { front = []; split = e; more = word; found = a; begins = some; free = free; same = λ o n. refl };
  whole = λ ts b h rest. let e : ⊥ = cc in absurd e;
  word = word;
  value = a;
  some = some;
  word_free = free;
}

-- ---- one after another

abbrev pub Then : {A B : Type 0} → (A → List Token → List Token → Type 0) → (A → B → List Token → List Token → Type 0) → B → List Token → List Token → Type 0
Then {A} R Q b ts rest = (a : A) × (us : List Token) × R a ts us × Q a b us rest

bind_ok : {A B : Type 0} (o : Outcome A) (f : A → Parser B) (b : B) (rest : List Token) → and_then o f ≡ Ok (b, rest) → (a : A) × (us : List Token) × (o ≡ Ok (a, us)) × (f a us ≡ Ok (b, rest))
bind_ok (Ok x) f b rest h = (x.0, x.1, refl, h)
bind_ok (Err e) f b rest h = let z : ⊥ = cc in absurd z

bind_err : {A B : Type 0} (o : Outcome A) (f : A → Parser B) (rest : List Token) → and_then o f ≡ Err rest → (o ≡ Err rest) ⊎ ((a : A) × (us : List Token) × (o ≡ Ok (a, us)) × (f a us ≡ Err rest))
bind_err (Ok x) f rest h = inr (x.0, x.1, refl, h)
bind_err (Err e) f rest h = let z : e ≡ rest = cc in inl (ap Err z)

module _ {A B : Type 0} (R : A → List Token → List Token → Type 0) (Q : A → B → List Token → List Token → Type 0) (p : Parser A) (f : A → Parser B) (l : Follows R p) (r : (a : A) → Follows (Q a) (f a)) where
  bind_took : (ts : List Token) (b : B) (rest : List Token) → and_then (p ts) f ≡ Ok (b, rest) → Took (Then R Q) (p >>= f) ts b rest
  bind_took ts b rest h =
      let x = bind_ok (p ts) f b rest h in
      let k = l.took ts x.0 x.1 x.2 in
      let m = (r x.0).took x.1 b rest x.3 in
      record {
        front = k.front ++ m.front;
        split = k.split ∙ (ap (λ z. k.front ++ z) m.split ∙ sym (append_assoc k.front m.front rest));
        reads = λ o y. (x.0, m.front ++ o, rw append_assoc (k.reads (m.front ++ o) (fits_split x.1 m.front rest o m.split y)), m.reads o y);
        same = λ o n. rw (append_assoc, k.same (m.front ++ o) (ap next m.split ∙ next_behind m.front _ _ n)) (m.same o n);
      }

  bind_stuck : (ts rest : List Token) → and_then (p ts) f ≡ Err rest → Stuck (Then R Q) (p >>= f) ts rest
  bind_stuck ts rest h = elim (bind_err (p ts) f rest h) [
    | inl e ↦ (let k = l.stuck ts rest e in let m = r k.found in record {
      front = k.front;
      split = k.split;
      more = k.more ++ m.word;
      found = m.value;
      begins = λ o y. (k.found, m.word ++ o, rw append_assoc (k.begins (m.word ++ o) (m.word_free o y)), m.some o y);
      free = λ o y. rw append_assoc (k.free (m.word ++ o) (m.word_free o y));
      same = λ o n. rw (k.same o n) refl;
    })
    | inr x ↦ (let k = l.took ts x.0 x.1 x.2 in let m = (r x.0).stuck x.1 rest x.3 in record {
      front = k.front ++ m.front;
      split = k.split ∙ (ap (λ z. k.front ++ z) m.split ∙ sym (append_assoc k.front m.front rest));
      more = m.more;
      found = m.found;
      free = m.free;
      begins = λ o y. (x.0, m.front ++ (m.more ++ o), rw append_assoc (k.reads (m.front ++ (m.more ++ o)) (fits_split x.1 m.front rest (m.more ++ o) m.split (inr (m.free o y)))), m.begins o y);
      same = λ o n. rw (append_assoc, k.same (m.front ++ o) (ap next m.split ∙ next_behind m.front _ _ n)) (m.same o n);
    })
  ]

  bind_left : (m : ℕ) (o : Outcome A) → left o < m → left (and_then o f) < m
  bind_left m (Ok x) h = omega (arith, h, no_longer (f x.0) (r x.0) x.1)
  bind_left m (Err e) h = h

  bind_goes : (ts : List Token) (b : B) (rest : List Token) (a : A) (us : List Token) → p ts ≡ Ok (a, us) → f a us ≡ Ok (b, []) → GoesOn (p >>= f) ts b rest
  bind_goes ts b rest a [] e g = elim (l.whole ts a e rest) [
    | inl i ↦ (let w : GoesOn (f a) [] b rest = (r a).whole [] b g rest in rw i w)
    | inr j ↦ inr (bind_left (length rest) (p (ts ++ rest)) j)
  ]
  bind_goes ts b rest a (u ∷ us) e g =
      let k = l.took ts a (u ∷ us) e in
      let i : ts ++ rest ≡ k.front ++ ((u ∷ us) ++ rest) = ap (λ z. z ++ rest) k.split ∙ append_assoc k.front (u ∷ us) rest in
      let j : p (ts ++ rest) ≡ Ok (a, (u ∷ us) ++ rest) = ap p i ∙ k.same ((u ∷ us) ++ rest) refl in
      let w : GoesOn (f a) (u ∷ us) b rest = (r a).whole (u ∷ us) b g rest in
      rw j w

  pub follows_bind : Follows (Then R Q) (p >>= f)
  follows_bind = record {
    took = bind_took;
    stuck = bind_stuck;
    whole = λ ts b h rest. let x = bind_ok (p ts) f b [] h in bind_goes ts b rest x.0 x.1 x.2 x.3;
    word = l.word ++ (r l.value).word;
    value = (r l.value).value;
    some = λ o y. (l.value, (r l.value).word ++ o, rw append_assoc (l.some ((r l.value).word ++ o) ((r l.value).word_free o y)), (r l.value).some o y);
    word_free = λ o y. rw append_assoc (l.word_free ((r l.value).word ++ o) ((r l.value).word_free o y));
  }

-- ---- a choice by whether a token comes next that f takes

-- such a token stands first
abbrev pub After : {X A : Type 0} → (Token → Option X) → (Token → X → A → List Token → List Token → Type 0) → A → List Token → List Token → Type 0
After {X} f R a ts rest = (u : Token) × (us : List Token) × (x : X) × (ts ≡ u ∷ us) × (f u ≡ Some x) × R u x a us rest

behind_some : {X : Type 0} (us vs : List Token) (o : Option X) (x : X) → behind us o ≡ Some (x, vs) → (o ≡ Some x) × (us ≡ vs)
behind_some us vs None x h = let z : ⊥ = cc in absurd z
behind_some {X} us vs (Some y) x h = let e : ◌≡◌ {A = X × List Token} (y, us) (x, vs) = cc in (ap (λ z. Some z.0) e, ap (λ z. z.1) e)

behind_none : {X : Type 0} (us : List Token) (o : Option X) → behind us o ≡ None → o ≡ None
behind_none us None h = refl
behind_none us (Some y) h = let z : ⊥ = cc in absurd z

module _ {X : Type 0} (f : Token → Option X) where
  pub next_by_some : (ts us : List Token) (x : X) → next_by f ts ≡ Some (x, us) → (u : Token) × (ts ≡ u ∷ us) × (f u ≡ Some x)
  unfolding next_by
  next_by_some [] us x h = let z : ⊥ = cc in absurd z
  next_by_some (u ∷ ts) us x h = let k = behind_some ts us (f u) x h in (u, ap (λ z. u ∷ z) k.1, k.0)

  pub next_by_here : (u : Token) (us : List Token) (x : X) → f u ≡ Some x → next_by f (u ∷ us) ≡ Some (x, us)
  unfolding next_by
  next_by_here u us x h = rw h refl

  pub next_by_next : (ts us : List Token) → next ts ≡ next us → next_by f ts ≡ None → next_by f us ≡ None
  unfolding next_by
  next_by_next ts [] h e = refl
  next_by_next [] (v ∷ us) h e = let z : ⊥ = cc in absurd z
  next_by_next (u ∷ ts) (v ∷ us) h e = let w : u ≡ v = cc in let n : f u ≡ None = behind_none ts (f u) e in rw (← w, n) refl

abbrev pub Either : {X A : Type 0} → (Token → Option X) → (Token → X → A → List Token → List Token → Type 0) → (A → List Token → List Token → Type 0) → A → List Token → List Token → Type 0
Either f R Q a ts rest = After f R a ts rest ⊎ Q a ts rest

module _ {X A : Type 0} (f : Token → Option X) (R : Token → X → A → List Token → List Token → Type 0) (Q : A → List Token → List Token → Type 0) (p : X → Parser A) (q : Parser A) (l : (u : Token) (x : X) → f u ≡ Some x → Follows (R u x) (p x)) (r : Follows Q q) where
  if_took : (ts : List Token) (a : A) (rest : List Token) (o : Option (X × List Token)) → next_by f ts ≡ o → next_or o p (q ts) ≡ Ok (a, rest) → Took (Either f R Q) (if_next f p q) ts a rest
  if_took ts a rest (Some y) k e = let s = next_by_some f ts y.1 y.0 k in let g = (l s.0 y.0 s.2).took y.1 a rest e in record {
    front = s.0 ∷ g.front;
    split = s.1 ∙ ap (λ z. s.0 ∷ z) g.split;
    reads = λ o w. inl (s.0, g.front ++ o, y.0, refl, s.2, g.reads o w);
    same = λ o n. rw (next_by_here f s.0 (g.front ++ o) y.0 s.2) (g.same o n);
  }
  if_took ts a rest None k e = let g = r.took ts a rest e in record {
    front = g.front;
    split = g.split;
    reads = λ o w. inr (g.reads o w);
    same = λ o n. rw (next_by_next f ts (g.front ++ o) (ap next g.split ∙ next_behind g.front _ _ n) k) (g.same o n);
  }

  if_stuck : (ts rest : List Token) (o : Option (X × List Token)) → next_by f ts ≡ o → next_or o p (q ts) ≡ Err rest → Stuck (Either f R Q) (if_next f p q) ts rest
  if_stuck ts rest (Some y) k e = let s = next_by_some f ts y.1 y.0 k in let g = (l s.0 y.0 s.2).stuck y.1 rest e in record {
    front = s.0 ∷ g.front;
    split = s.1 ∙ ap (λ z. s.0 ∷ z) g.split;
    more = g.more;
    found = g.found;
    begins = λ o w. inl (s.0, g.front ++ (g.more ++ o), y.0, refl, s.2, g.begins o w);
    free = g.free;
    same = λ o n. rw (next_by_here f s.0 (g.front ++ o) y.0 s.2) (g.same o n);
  }
  if_stuck ts rest None k e = let g = r.stuck ts rest e in record {
    front = g.front;
    split = g.split;
    more = g.more;
    found = g.found;
    begins = λ o w. inr (g.begins o w);
    free = g.free;
    same = λ o n. rw (next_by_next f ts (g.front ++ o) (ap next g.split ∙ next_behind g.front _ _ n) k) (g.same o n);
  }

  if_nothing : (a : A) (rest : List Token) (o : Option (X × List Token)) → next_by f rest ≡ o → q [] ≡ Ok (a, []) → GoesOn (if_next f p q) [] a rest
  if_nothing a rest (Some y) k e = let s = next_by_some f rest y.1 y.0 k in
      inr (rw k (omega (arith, no_longer (p y.0) (l s.0 y.0 s.2) y.1, ap length s.1)))
  if_nothing a rest None k e = let w : GoesOn q [] a rest = r.whole [] a e rest in rw k w

  if_goes : (ts : List Token) (a : A) (rest : List Token) (o : Option (X × List Token)) → next_by f ts ≡ o → next_or o p (q ts) ≡ Ok (a, []) → GoesOn (if_next f p q) ts a rest
  if_goes ts a rest (Some y) k e = let s = next_by_some f ts y.1 y.0 k in
      let w : GoesOn (p y.0) y.1 a rest = (l s.0 y.0 s.2).whole y.1 a e rest in
      rw (s.1, next_by_here f s.0 (y.1 ++ rest) y.0 s.2) w
  if_goes [] a rest None k e = if_nothing a rest (next_by f rest) refl e
  if_goes (u ∷ us) a rest None k e = let w : GoesOn q (u ∷ us) a rest = r.whole (u ∷ us) a e rest in
      rw (next_by_next f (u ∷ us) (u ∷ (us ++ rest)) refl k) w

  pub follows_if : Follows (Either f R Q) (if_next f p q)
  follows_if = record {
    whole = λ ts a h rest. if_goes ts a rest (next_by f ts) refl h;
    took = λ ts a rest e. if_took ts a rest (next_by f ts) refl e;
    stuck = λ ts rest e. if_stuck ts rest (next_by f ts) refl e;
    word = r.word;
    value = r.value;
    some = λ o y. inr (r.some o y);
    word_free = r.word_free;
  }

-- a token that f takes has to come: u is one
module _ {X A : Type 0} (f : Token → Option X) (R : Token → X → A → List Token → List Token → Type 0) (p : X → Parser A) (l : (u : Token) (x : X) → f u ≡ Some x → Follows (R u x) (p x)) (u : Token) (x : X) (here : f u ≡ Some x) (free : Free (Some u)) where
  pub follows_must : Follows (After f R) (must f p)
  follows_must = let m = l u x here in follows_weaker (λ a ts rest h. elim h [ inl k ↦ k | inr k ↦ k ])
      (follows_if f R (After f R) p fails l
      (follows_fault (After f R) (u ∷ m.word) m.value (λ o y. (u, m.word ++ o, x, refl, here, m.some o y)) (λ o y. free)))

-- a token of one mark
abbrev pub token_of : List ℕ → Token
token_of m = record { place = record { line = 0; column = 0 }; kind = k.Mark m }

pub token_free : (m : List ℕ) → Free (Some (token_of m))
token_free m h = cc

-- a mark has to come
pub follows_mark : {A : Type 0} (m : List ℕ) (R : A → List Token → List Token → Type 0) (p : Parser A) → bytes_eq m m ≡ true → Follows R p → Follows (After (mark m) (λ _ _. R)) (must (mark m) (λ _. p))
follows_mark m R p e l = follows_must (mark m) (λ _ _. R) (λ _. p) (λ u x h. l) (token_of m) (token_of m).place (mark_here m m (token_of m) refl e) (token_free m)

-- ---- lists

pub follows_many : {X A : Type 0} (f : Token → Option X) (R : Token → X → A → List Token → List Token → Type 0) (Q : List A → List Token → List Token → Type 0) (p : X → Parser A) → ((u : Token) (x : X) → f u ≡ Some x → Follows (R u x) (p x))
    → ((ts : List Token) → Q [] ts ts) → ((u : Token) (x : X) (e : A) (es : List A) (ts us rest : List Token) → f u ≡ Some x → R u x e ts us → Q es us rest → Q (e ∷ es) (u ∷ ts) rest) → (n : ℕ) → Follows Q (many f p n)
unfolding many
follows_many f R Q p l end more zero = follows_fault Q [] [] (λ o y. end o) (λ o y. y)
follows_many f R Q p l end more (suc n) = follows_weaker (λ es ts rest k. elim k [
  | inl (u, us, x, i, h, (e, vs, r, (fs, ws, q, (j, g)))) ↦ rw (i, j, ← g) (more u x e fs us vs ws h r q)
  | inr (j, g) ↦ rw (j, g) (end rest)
])
    (follows_if f _ _ _ _ (λ u x h. follows_bind (R u x) _ (p x) _ (l u x h) (λ e. follows_bind Q _ (many f p n) _ (follows_many f R Q p l end more n) (λ es. follows_pure (e ∷ es)))) (follows_pure []))

-- ---- a choice by the token that comes first, which stays

pub is_next_same : (f : Token → Bool) (ts us : List Token) → next ts ≡ next us → is_next f ts ≡ is_next f us
is_next_same f [] [] h = refl
is_next_same f [] (v ∷ us) h = let z : ⊥ = cc in absurd z
is_next_same f (u ∷ ts) [] h = let z : ⊥ = cc in absurd z
is_next_same f (u ∷ ts) (v ∷ us) h = let w : u ≡ v = cc in ap f w

module _ {A : Type 0} (R : A → List Token → List Token → Type 0) (f : Token → Bool) (p q : Parser A) (l : Follows R p) (r : Follows R q) (solid : (a : A) → q [] ≡ Ok (a, []) → ⊥) where
  ahead_took : (ts : List Token) (a : A) (rest : List Token) (b : Bool) → is_next f ts ≡ b → cond b (p ts) (q ts) ≡ Ok (a, rest) → Took R (if_ahead f p q) ts a rest
  ahead_took ts a rest true k e = let g = l.took ts a rest e in record {
    front = g.front;
    split = g.split;
    reads = g.reads;
    same = λ o n. rw (sym (is_next_same f ts (g.front ++ o) (ap next g.split ∙ next_behind g.front _ _ n)) ∙ k) (g.same o n);
  }
  ahead_took ts a rest false k e = let g = r.took ts a rest e in record {
    front = g.front;
    split = g.split;
    reads = g.reads;
    same = λ o n. rw (sym (is_next_same f ts (g.front ++ o) (ap next g.split ∙ next_behind g.front _ _ n)) ∙ k) (g.same o n);
  }

  ahead_stuck : (ts rest : List Token) (b : Bool) → is_next f ts ≡ b → cond b (p ts) (q ts) ≡ Err rest → Stuck R (if_ahead f p q) ts rest
  ahead_stuck ts rest true k e = let g = l.stuck ts rest e in record {
    front = g.front;
    split = g.split;
    more = g.more;
    found = g.found;
    begins = g.begins;
    free = g.free;
    same = λ o n. rw (sym (is_next_same f ts (g.front ++ o) (ap next g.split ∙ next_behind g.front _ _ n)) ∙ k) (g.same o n);
  }
  ahead_stuck ts rest false k e = let g = r.stuck ts rest e in record {
    front = g.front;
    split = g.split;
    more = g.more;
    found = g.found;
    begins = g.begins;
    free = g.free;
    same = λ o n. rw (sym (is_next_same f ts (g.front ++ o) (ap next g.split ∙ next_behind g.front _ _ n)) ∙ k) (g.same o n);
  }

  ahead_goes : (ts : List Token) (a : A) (rest : List Token) (b : Bool) → is_next f ts ≡ b → cond b (p ts) (q ts) ≡ Ok (a, []) → GoesOn (if_ahead f p q) ts a rest
  ahead_goes [] a rest true k e = let z : ⊥ = cc in absurd z
  ahead_goes [] a rest false k e = absurd (solid a e)
  ahead_goes (u ∷ us) a rest true k e = let w : GoesOn p (u ∷ us) a rest = l.whole (u ∷ us) a e rest in rw k w
  ahead_goes (u ∷ us) a rest false k e = let w : GoesOn q (u ∷ us) a rest = r.whole (u ∷ us) a e rest in rw k w

  pub follows_ahead : Follows R (if_ahead f p q)
  follows_ahead = record {
    whole = λ ts a h rest. ahead_goes ts a rest (is_next f ts) refl h;
    took = λ ts a rest e. ahead_took ts a rest (is_next f ts) refl e;
    stuck = λ ts rest e. ahead_stuck ts rest (is_next f ts) refl e;
    word = l.word;
    value = l.value;
    some = l.some;
    word_free = l.word_free;
  }

-- ---- the place of the first token

-- c is made of the place of the first token and of what stands in the pair
abbrev pub Placed : {P C : Type 0} → (Place → P → C) → (P → List Token → List Token → Type 0) → C → List Token → List Token → Type 0
Placed {P} make R c ts rest = (a : P) × R a ts rest × (c ≡ make (first_place ts) a)

abbrev pub with_place : {P C : Type 0} → (Place → P → C) → Parser P → Parser C
with_place make p = λ ts. and_then (p ts) (λ a. pure (make (first_place ts) a))

pub place_ahead : (x other another : List Token) → 0 < length x → first_place (x ++ other) ≡ first_place (x ++ another)
place_ahead [] other another h = absurd (omega arith)
place_ahead (u ∷ x) other another h = refl

module _ {P C : Type 0} (make : Place → P → C) (R : P → List Token → List Token → Type 0) (p : Parser P) (l : Follows R p) (shorter : (a : P) (ts rest : List Token) → R a ts rest → length rest < length ts) where
  place_took : (ts : List Token) (c : C) (rest : List Token) → and_then (p ts) (λ a. pure (make (first_place ts) a)) ≡ Ok (c, rest) → Took (Placed make R) (with_place make p) ts c rest
  place_took ts c rest h =
      let x = bind_ok (p ts) (λ a. pure (make (first_place ts) a)) c rest h in
      let i : x.1 ≡ rest = ap (λ z. z.1) (ok_parts x.3) in
      let v : make (first_place ts) x.0 ≡ c = ap (λ z. z.0) (ok_parts x.3) in
      let k = l.took ts x.0 rest (x.2 ∙ ap (λ z. Ok (x.0, z)) i) in
      let some : 0 < length k.front = omega (arith, shorter _ _ _ (k.reads rest (inl refl)), length-append k.front rest) in
      let moved : (o : List Token) → c ≡ make (first_place (k.front ++ o)) x.0 = λ o. sym v ∙ ap (λ z. make z x.0) (ap first_place k.split ∙ place_ahead k.front rest o some) in
      record {
        front = k.front;
        split = k.split;
        reads = λ o y. (x.0, k.reads o y, moved o);
        same = λ o n. rw (k.same o n) (ap (λ z. Ok (z, o)) (sym (moved o)));
      }

  place_stuck : (ts rest : List Token) → and_then (p ts) (λ a. pure (make (first_place ts) a)) ≡ Err rest → Stuck (Placed make R) (with_place make p) ts rest
  place_stuck ts rest h = elim (bind_err (p ts) (λ a. pure (make (first_place ts) a)) rest h) [
    | inl e ↦ (let k = l.stuck ts rest e in
        let some : 0 < length (k.front ++ k.more) = omega (arith, shorter _ _ _ (k.begins [] tt), length-append k.front (k.more ++ []), length-append k.more [], length-append k.front k.more) in
        record {
          front = k.front;
          split = k.split;
          more = k.more;
          found = make (first_place (k.front ++ k.more)) k.found;
          free = k.free;
          begins = λ o y. (k.found, k.begins o y, ap (λ z. make z k.found) (ap first_place (sym (append-nil (k.front ++ k.more))) ∙ (place_ahead (k.front ++ k.more) [] o some ∙ ap first_place (append_assoc k.front k.more o))));
          same = λ o n. rw (k.same o n) refl;
        })
    | inr x ↦ (let z : ⊥ = cc x.3 in absurd z)
  ]

  place_left : (m : ℕ) (at : Place) (o : Outcome P) → left o < m → left (and_then o (λ a. pure (make at a))) < m
  place_left m at (Ok x) h = h
  place_left m at (Err e) h = h

  place_goes : (ts : List Token) (c : C) (rest : List Token) → and_then (p ts) (λ a. pure (make (first_place ts) a)) ≡ Ok (c, []) → GoesOn (with_place make p) ts c rest
  place_goes ts c rest h =
      let x = bind_ok (p ts) (λ a. pure (make (first_place ts) a)) c [] h in
      let i : x.1 ≡ [] = ap (λ z. z.1) (ok_parts x.3) in
      let v : make (first_place ts) x.0 ≡ c = ap (λ z. z.0) (ok_parts x.3) in
      let e : p ts ≡ Ok (x.0, []) = x.2 ∙ ap (λ z. Ok (x.0, z)) i in
      let k = l.took ts x.0 [] e in
      let some : 0 < length ts = omega (arith, shorter _ _ _ (k.reads [] (inl refl)), ap length k.split) in
      let moved : first_place (ts ++ rest) ≡ first_place ts = place_ahead ts rest [] some ∙ ap first_place (append-nil ts) in
      elim (l.whole ts x.0 e rest) [
        | inl j ↦ inl (rw (j, moved) (ap (λ z. Ok (z, rest)) v))
        | inr j ↦ inr (place_left (length rest) (first_place (ts ++ rest)) (p (ts ++ rest)) j)
      ]

  pub follows_place : Follows (Placed make R) (with_place make p)
  follows_place =
      let some : 0 < length l.word = omega (arith, shorter _ _ _ (l.some [] tt), length-append l.word []) in
      record {
        took = place_took;
        stuck = place_stuck;
        whole = λ ts c h rest. place_goes ts c rest h;
        word = l.word;
        value = make (first_place l.word) l.value;
        some = λ o y. (l.value, l.some o y, ap (λ z. make z l.value) (ap first_place (sym (append-nil l.word)) ∙ place_ahead l.word [] o some));
        word_free = l.word_free;
      }

-- a parser that does the same
pub follows_same : {A : Type 0} {R : A → List Token → List Token → Type 0} {p q : Parser A} → ((ts : List Token) → p ts ≡ q ts) → Follows R p → Follows R q
follows_same e f = record {
  took = λ ts a rest h. let k = f.took ts a rest (e ts ∙ h) in record { front = k.front; split = k.split; reads = k.reads; same = λ o n. sym (e (k.front ++ o)) ∙ k.same o n };
  stuck = λ ts rest h. let k = f.stuck ts rest (e ts ∙ h) in record { front = k.front; split = k.split; more = k.more; found = k.found; begins = k.begins; free = k.free; same = λ o n. sym (e (k.front ++ o)) ∙ k.same o n };
  whole = λ ts a h rest. rw (← e) (f.whole ts a (e ts ∙ h) rest);
  word = f.word;
  value = f.value;
  some = f.some;
  word_free = f.word_free;
}

-- two parts, and the place of the first token
abbrev pub Both : {A B C : Type 0} → (Place → A → B → C) → (A → List Token → List Token → Type 0) → (B → List Token → List Token → Type 0) → C → List Token → List Token → Type 0
Both {A} {B} make R Q c ts rest = (a : A) × (b : B) × (us : List Token) × R a ts us × Q b us rest × (c ≡ make (first_place ts) a b)

module _ {A B C : Type 0} (make : Place → A → B → C) (R : A → List Token → List Token → Type 0) (Q : B → List Token → List Token → Type 0) (p : Parser A) (q : Parser B) (l : Follows R p) (r : Follows Q q)
    (shorter : (a : A) (b : B) (ts us rest : List Token) → R a ts us → Q b us rest → length rest < length ts) where
  placed_second : (ts : List Token) (a : A) (o : Outcome B) → and_then {A = A × B} (and_then o (λ b. pure {A = A × B} (a, b))) (λ x. pure (make (first_place ts) x.0 x.1)) ≡ and_then o (λ b. pure (make (first_place ts) a b))
  placed_second ts a (Ok x) = refl
  placed_second ts a (Err e) = refl

  placed_first : (ts : List Token) (o : Outcome A) → and_then {A = A × B} (and_then o (λ a. q >>= λ b. pure {A = A × B} (a, b))) (λ x. pure (make (first_place ts) x.0 x.1)) ≡ and_then o (λ a. q >>= λ b. pure (make (first_place ts) a b))
  placed_first ts (Ok x) = placed_second ts x.0 (q x.1)
  placed_first ts (Err e) = refl

  pub follows_placed : Follows (Both make R Q) (placed make p q)
  follows_placed = follows_same (λ ts. placed_first ts (p ts)) (follows_weaker
      (λ c ts rest (x, (a, us, d, (b, vs, f, (i, j))), e). (a, b, us, d, rw (← j) f, e ∙ ap (λ z. make (first_place ts) z.0 z.1) i))
      (follows_place (λ at x. make at x.0 x.1) (Then R (λ a. Then Q (λ b. Nothing {A = A × B} (a, b)))) (p >>= λ a. q >>= λ b. pure {A = A × B} (a, b))
      (follows_bind R _ p _ l (λ a. follows_bind Q _ q _ r (λ b. follows_pure {A = A × B} (a, b))))
      (λ x ts rest (a, us, d, (b, vs, f, (i, j))). shorter a b ts us rest d (rw (← j) f))))
