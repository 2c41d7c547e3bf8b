-- A parser follows a relation: what it reads is related, it looks one token ahead, and where it finds a fault,
-- the tokens before it begin something that is related within the limits. Where a limit is passed,
-- the tokens up to the one that passes it begin something that is related without that limit.
use Rattle.std.proofs.Common.{◌≡◌, ℕ, ◌<◌, ◌≤◌, ◌⊎◌, inl, inr, Bool, true, false, cond, length, List, [], ◌∷◌, ◌++◌, Result, Ok, Err, Option, Some, None, refl, sym, ap, subst, arith, append_assoc, ◌∙◌, length-append}
use Rattle.std.specs.Prelude.{codes}
use Rattle.std.specs.Str.{bytes_eq}
use Rattle.vl_base.specs.declared.place.Place.{Place}
use Rattle.vl_tree.specs.declared.token.Token.{Token}
use Rattle.vl_tree.specs.declared.token.TokenKind.TheVariants as k
use Rattle.vl_tree.specs.Grammar.{first_place}
use Rattle.vl_tree.specs.Reading.{next_by, is_next, mark, keyword, place_if}
use Rattle.vl_tree.proofs.MarkLemmas.{mark_here}
use Rattle.vl_tree.proofs.Follows.{next, next_behind, Free, Fits, fits_split, next_by_some, next_by_here, next_by_next, is_next_same, place_ahead}
use Rattle.vl_tree.specs.declared.source_fault.Cause.{Cause}
use Rattle.vl_tree.specs.declared.source_fault.Cause.TheVariants as c
use Rattle.vl_tree.specs.Bounds.{Bounds, most_statements, most_tokens}
use Rattle.vl_tree.specs.Parsers.{Outcome, Parser, and_then, ◌>>=◌, pure, fails, if_next, must, next_or, if_ahead, placed}
pub use Rattle.vl_tree.proofs.Follows.{ok_parts}

-- ---- bounds

abbrev pub limit_if : Bool → ℕ → Option ℕ
limit_if true n = Some n
limit_if false n = None

-- with or without limit 3, with or without limit 4, and so many last tokens that count for neither
abbrev pub bounds : Bool → Bool → ℕ → Bounds
bounds s t u = record { statements = limit_if s most_statements; tokens = limit_if t most_tokens; uncounted = u }

-- the tokens from here on count for no limit
abbrev pub Spare : Bool → Bool → ℕ → List Token → Type 0
Spare s t u ts = (length ts ≤ u) ⊎ ((s ≡ false) × (t ≡ false))

pub spare_behind : (s t : Bool) (u : ℕ) (x ts : List Token) → Spare s t u (x ++ ts) → Spare s t u ts
spare_behind s t u x ts (inl h) = inl (omega (arith, length-append x ts))
spare_behind s t u x ts (inr h) = inr h

pub spare_tail : (s t : Bool) (u : ℕ) (x : Token) (ts : List Token) → Spare s t u (x ∷ ts) → Spare s t u ts
spare_tail s t u x ts (inl h) = inl (omega arith)
spare_tail s t u x ts (inr h) = inr h

-- ---- the relation of a parser

abbrev pub Relation : Type 0 → Type 1
Relation A = Bounds → A → List Token → List Token → Type 0

-- a was read from ts, and rest is left; the same is read where other tokens follow, of which the first is the same
pub record Took {A : Type 0} (R : Relation A) (p : Parser A) (ts : List Token) (a : A) (rest : List Token) : Type 0 where
  pub front : List Token
  pub split : ts ≡ front ++ rest
  pub reads : (s t : Bool) (u : ℕ) (other : List Token) → Fits rest other → R (bounds s t u) a (front ++ other) other
  pub same : (other : List Token) → next rest ≡ next other → p (front ++ other) ≡ Ok (a, other)

-- a limit is passed
abbrev pub IsLimit : Cause → Type 0
IsLimit c.Syntax = ⊥
IsLimit c.Statements = Unit {0}
IsLimit c.Tokens = Unit {0}

-- the bounds have no such limit
abbrev pub Lacks : Cause → Bool → Bool → Type 0
Lacks c.Syntax s t = ⊥
Lacks c.Statements s t = s ≡ false
Lacks c.Tokens s t = t ≡ false

-- without the limit, the first token of rest goes on from front
pub record Beyond {A : Type 0} (R : Relation A) (cause : Cause) (front rest : List Token) : Type 0 where
  pub token : Token
  pub after : List Token
  pub here : rest ≡ token ∷ after
  pub more : List Token
  pub found : A
  pub begins : (s t : Bool) (u : ℕ) → Lacks cause s t → (other : List Token) → Spare s t u (more ++ other) → Free (next other) → R (bounds s t u) found (front ++ token ∷ (more ++ other)) other

-- rest is what is left at a fault: what stands before it begins something, and the same fault comes where the same token follows
pub record Stuck {A : Type 0} (R : Relation A) (p : Parser A) (ts : List Token) (cause : Cause) (rest : List Token) : Type 0 where
  pub front : List Token
  pub split : ts ≡ front ++ rest
  pub more : List Token
  pub found : A
  pub begins : (s t : Bool) (u : ℕ) (other : List Token) → Spare s t u (more ++ other) → Free (next other) → R (bounds s t u) found (front ++ (more ++ other)) other
  pub fits : (other : List Token) → Free (next other) → Fits ts (front ++ (more ++ other))
  pub same : (other : List Token) → next rest ≡ next other → p (front ++ other) ≡ Err (cause, other)
  pub beyond : IsLimit cause → Beyond R cause front rest

pub record Follows {A : Type 0} (R : Relation A) (p : Parser A) : Type 0 where
  pub took : (ts : List Token) (a : A) (rest : List Token) → p ts ≡ Ok (a, rest) → Took R p ts a rest
  pub stuck : (ts : List Token) (cause : Cause) (rest : List Token) → p ts ≡ Err (cause, rest) → Stuck R p ts cause rest
  pub word : List Token
  pub value : A
  pub some : (s t : Bool) (u : ℕ) (other : List Token) → Spare s t u (word ++ other) → Free (next other) → R (bounds s t u) value (word ++ other) other
  pub word_free : (other : List Token) → Free (next other) → Free (next (word ++ other))

pub err_parts : {B : Type 0} {x y : Cause × List Token} → ◌≡◌ {A = Result B (Cause × List Token)} (Err x) (Err y) → x ≡ y
err_parts h = cc

-- how many tokens are left
abbrev pub left : {A : Type 0} → Outcome A → ℕ
left (Ok x) = length x.1
left (Err e) = length e.1

-- what is left is no longer
module _ {A : Type 0} {R : Relation A} (p : Parser A) (l : Follows R p) (ts : List Token) where
  no_longer_at : (o : Outcome A) → p ts ≡ o → left o ≤ length ts
  no_longer_at (Ok x) e = let k = l.took ts x.0 x.1 e in omega (arith, ap length k.split, length-append k.front x.1)
  no_longer_at (Err r) e = let k = l.stuck ts r.0 r.1 e in omega (arith, ap length k.split, length-append k.front r.1)

  pub no_longer : left (p ts) ≤ length ts
  no_longer = no_longer_at (p ts) refl

-- the token beyond and what follows take the place of what stood there
pub fits_beyond : {A : Type 0} {R : Relation A} {cause : Cause} {front rest : List Token} (b : Beyond R cause front rest) (ts other : List Token) → ts ≡ front ++ rest → Fits ts (front ++ b.token ∷ other)
fits_beyond {A} {R} {cause} {front} {rest} b ts other e = fits_split ts front rest (b.token ∷ other) e (inl (ap next b.here))

-- ---- weaker relations

pub follows_within : {A : Type 0} {R Q : Relation A} {p : Parser A} → ((s t : Bool) (u : ℕ) (a : A) (ts rest : List Token) → R (bounds s t u) a ts rest → Q (bounds s t u) a ts rest) → Follows R p → Follows Q p
follows_within w f = record {
  took = λ ts a rest h. let k = f.took ts a rest h in record { front = k.front; split = k.split; reads = λ s t u o y. w s t u _ _ _ (k.reads s t u o y); same = k.same };
  stuck = λ ts cause rest h. let k = f.stuck ts cause rest h in record {
    front = k.front;
    split = k.split;
    more = k.more;
    found = k.found;
    begins = λ s t u o z y. w s t u _ _ _ (k.begins s t u o z y);
    fits = k.fits;
    same = k.same;
    beyond = λ i. let b = k.beyond i in record { token = b.token; after = b.after; here = b.here; more = b.more; found = b.found; begins = λ s t u g o z y. w s t u _ _ _ (b.begins s t u g o z y) };
  };
  word = f.word;
  value = f.value;
  some = λ s t u o z y. w s t u _ _ _ (f.some s t u o z y);
  word_free = f.word_free;
}

pub follows_weaker : {A : Type 0} {R Q : Relation A} {p : Parser A} → ((b : Bounds) (a : A) (ts rest : List Token) → R b a ts rest → Q b a ts rest) → Follows R p → Follows Q p
follows_weaker w f = follows_within (λ s t u. w (bounds s t u)) f

-- a parser that does the same
pub follows_same : {A : Type 0} {R : Relation A} {p q : Parser A} → ((ts : List Token) → p ts ≡ q ts) → Follows R p → Follows R q
follows_same e f = record {
  took = λ ts a rest h. let k = f.took ts a rest (e ts ∙ h) in record { front = k.front; split = k.split; reads = k.reads; same = λ o n. sym (e (k.front ++ o)) ∙ k.same o n };
  stuck = λ ts cause rest h. let k = f.stuck ts cause rest (e ts ∙ h) in record { front = k.front; split = k.split; more = k.more; found = k.found; begins = k.begins; fits = k.fits; same = λ o n. sym (e (k.front ++ o)) ∙ k.same o n; beyond = k.beyond };
  word = f.word;
  value = f.value;
  some = f.some;
  word_free = f.word_free;
}

-- ---- nothing is read

abbrev pub Nothing : {A : Type 0} → A → Relation A
Nothing a _ b ts rest = (b ≡ a) × (ts ≡ rest)

pub follows_pure : {A : Type 0} (a : A) → Follows (Nothing a) (pure a)
follows_pure a = record {
  took = λ ts b rest h. let e : a ≡ b = ap (λ x. x.0) (ok_parts h) in let k : ts ≡ rest = ap (λ x. x.1) (ok_parts h) in record { front = []; split = k; reads = λ s t u o y. (sym e, refl); same = λ o n. ap (λ x. Ok (x, o)) e };
  stuck = λ ts cause rest h. let e : ⊥ = cc in absurd e;
  word = [];
  value = a;
  some = λ s t u o z y. (refl, refl);
  word_free = λ o y. y;
}

no_limit_passed : (cause : Cause) → c.Syntax ≡ cause → IsLimit cause → ⊥
no_limit_passed cause e h = subst (λ x. IsLimit x) (sym e) h

-- a parser that always faults, where something can stand
pub follows_fault : {A : Type 0} (R : Relation A) (word : List Token) (a : A) → ((s t : Bool) (u : ℕ) (other : List Token) → Spare s t u (word ++ other) → Free (next other) → R (bounds s t u) a (word ++ other) other) → ((other : List Token) → Free (next other) → Free (next (word ++ other))) → Follows R fails
follows_fault R word a some free = record {
  took = λ ts b rest h. let e : ⊥ = cc in absurd e;
  stuck = λ ts cause rest h. let e : c.Syntax ≡ cause = ap (λ x. x.0) (err_parts h) in let k : ts ≡ rest = ap (λ x. x.1) (err_parts h) in
      record { front = []; split = k; more = word; found = a; begins = some; fits = λ o y. inr (free o y); same = λ o n. ap (λ x. Err (x, o)) e; beyond = λ i. absurd (no_limit_passed cause e i) };
  word = word;
  value = a;
  some = some;
  word_free = free;
}

-- ---- one after another

abbrev pub Then : {A B : Type 0} → Relation A → (A → Relation B) → Relation B
Then {A} R Q b y ts rest = (a : A) × (us : List Token) × R b a ts us × Q a b y us rest

pub bind_ok : {A B : Type 0} (o : Outcome A) (f : A → Parser B) (b : B) (rest : List Token) → and_then o f ≡ Ok (b, rest) → (a : A) × (us : List Token) × (o ≡ Ok (a, us)) × (f a us ≡ Ok (b, rest))
bind_ok (Ok x) f b rest h = (x.0, x.1, refl, h)
bind_ok (Err e) f b rest h = let z : ⊥ = cc in absurd z

pub bind_err : {A B : Type 0} (o : Outcome A) (f : A → Parser B) (cause : Cause) (rest : List Token) → and_then o f ≡ Err (cause, rest) → (o ≡ Err (cause, rest)) ⊎ ((a : A) × (us : List Token) × (o ≡ Ok (a, us)) × (f a us ≡ Err (cause, rest)))
bind_err (Ok x) f cause rest h = inr (x.0, x.1, refl, h)
bind_err (Err e) f cause rest h = inl (ap Err (err_parts h))

module _ {A B : Type 0} (R : Relation A) (Q : A → Relation B) (p : Parser A) (f : A → Parser B) (l : Follows R p) (r : (a : A) → Follows (Q a) (f a)) where
  bind_took : (ts : List Token) (b : B) (rest : List Token) → and_then (p ts) f ≡ Ok (b, rest) → Took (Then R Q) (p >>= f) ts b rest
  bind_took ts b rest h =
      let x = bind_ok (p ts) f b rest h in
      let k = l.took ts x.0 x.1 x.2 in
      let m = (r x.0).took x.1 b rest x.3 in
      record {
        front = k.front ++ m.front;
        split = k.split ∙ (ap (λ z. k.front ++ z) m.split ∙ sym (append_assoc k.front m.front rest));
        reads = λ s t u o y. (x.0, m.front ++ o, rw append_assoc (k.reads s t u (m.front ++ o) (fits_split x.1 m.front rest o m.split y)), m.reads s t u o y);
        same = λ o n. rw (append_assoc, k.same (m.front ++ o) (ap next m.split ∙ next_behind m.front _ _ n)) (m.same o n);
      }

  first_beyond : (cause : Cause) (front rest : List Token) → Beyond R cause front rest → Beyond (Then R Q) cause front rest
  first_beyond cause front rest b = let m = r b.found in record {
    token = b.token;
    after = b.after;
    here = b.here;
    more = b.more ++ m.word;
    found = m.value;
    begins = λ s t u g o z y. let w : Spare s t u (b.more ++ (m.word ++ o)) = rw append_assoc at z in
        (b.found, m.word ++ o, rw append_assoc (b.begins s t u g (m.word ++ o) w (m.word_free o y)), m.some s t u o (spare_behind s t u b.more (m.word ++ o) w) y);
  }

  first_stuck : (ts : List Token) (cause : Cause) (rest : List Token) → p ts ≡ Err (cause, rest) → Stuck (Then R Q) (p >>= f) ts cause rest
  first_stuck ts cause rest e = let k = l.stuck ts cause rest e in let m = r k.found in record {
    front = k.front;
    split = k.split;
    more = k.more ++ m.word;
    found = m.value;
    begins = λ s t u o z y. let w : Spare s t u (k.more ++ (m.word ++ o)) = rw append_assoc at z in
        (k.found, m.word ++ o, rw append_assoc (k.begins s t u (m.word ++ o) w (m.word_free o y)), m.some s t u o (spare_behind s t u k.more (m.word ++ o) w) y);
    fits = λ o y. rw append_assoc (k.fits (m.word ++ o) (m.word_free o y));
    same = λ o n. rw (k.same o n) refl;
    beyond = λ i. first_beyond cause k.front rest (k.beyond i);
  }

  second_stuck : (ts : List Token) (cause : Cause) (rest : List Token) (a : A) (us : List Token) → p ts ≡ Ok (a, us) → f a us ≡ Err (cause, rest) → Stuck (Then R Q) (p >>= f) ts cause rest
  second_stuck ts cause rest a us e g = let k = l.took ts a us e in let m = (r a).stuck us cause rest g in record {
    front = k.front ++ m.front;
    split = k.split ∙ (ap (λ z. k.front ++ z) m.split ∙ sym (append_assoc k.front m.front rest));
    more = m.more;
    found = m.found;
    begins = λ s t u o z y. (a, m.front ++ (m.more ++ o), rw append_assoc (k.reads s t u (m.front ++ (m.more ++ o)) (m.fits o y)), m.begins s t u o z y);
    fits = λ o y. rw append_assoc (fits_split ts k.front us (m.front ++ (m.more ++ o)) k.split (m.fits o y));
    same = λ o n. rw (append_assoc, k.same (m.front ++ o) (ap next m.split ∙ next_behind m.front _ _ n)) (m.same o n);
    beyond = λ i. let b = m.beyond i in record {
      token = b.token;
      after = b.after;
      here = b.here;
      more = b.more;
      found = b.found;
      begins = λ s t u g o z y. (a, m.front ++ b.token ∷ (b.more ++ o), rw append_assoc (k.reads s t u (m.front ++ b.token ∷ (b.more ++ o)) (fits_beyond b us (b.more ++ o) m.split)), b.begins s t u g o z y);
    };
  }

  pub follows_bind : Follows (Then R Q) (p >>= f)
  follows_bind = record {
    took = bind_took;
    stuck = λ ts cause rest h. elim (bind_err (p ts) f cause rest h) [
      | inl e ↦ first_stuck ts cause rest e
      | inr x ↦ second_stuck ts cause rest x.0 x.1 x.2 x.3
    ];
    word = l.word ++ (r l.value).word;
    value = (r l.value).value;
    some = λ s t u o z y. let w : Spare s t u (l.word ++ ((r l.value).word ++ o)) = rw append_assoc at z in
        (l.value, (r l.value).word ++ o, rw append_assoc (l.some s t u ((r l.value).word ++ o) w ((r l.value).word_free o y)), (r l.value).some s t u o (spare_behind s t u l.word ((r l.value).word ++ o) w) y);
    word_free = λ o y. rw append_assoc (l.word_free ((r l.value).word ++ o) ((r l.value).word_free o y));
  }

-- ---- a choice by whether a token comes next that f takes

-- such a token stands first
abbrev pub After : {X A : Type 0} → (Token → Option X) → (Token → X → Relation A) → Relation A
After {X} f R b a ts rest = (v : Token) × (us : List Token) × (x : X) × (ts ≡ v ∷ us) × (f v ≡ Some x) × R v x b a us rest

abbrev pub Either : {X A : Type 0} → (Token → Option X) → (Token → X → Relation A) → Relation A → Relation A
Either f R Q b a ts rest = After f R b a ts rest ⊎ Q b a ts rest

module _ {X A : Type 0} (f : Token → Option X) (R : Token → X → Relation A) (Q : Relation A) (p : X → Parser A) (q : Parser A) (l : (v : Token) (x : X) → f v ≡ Some x → Follows (R v x) (p x)) (r : Follows Q q) where
  if_took : (ts : List Token) (a : A) (rest : List Token) (o : Option (X × List Token)) → next_by f ts ≡ o → next_or o p (q ts) ≡ Ok (a, rest) → Took (Either f R Q) (if_next f p q) ts a rest
  if_took ts a rest (Some y) k e = let v = next_by_some f ts y.1 y.0 k in let g = (l v.0 y.0 v.2).took y.1 a rest e in record {
    front = v.0 ∷ g.front;
    split = v.1 ∙ ap (λ z. v.0 ∷ z) g.split;
    reads = λ s t u o w. inl (v.0, g.front ++ o, y.0, refl, v.2, g.reads s t u o w);
    same = λ o n. rw (next_by_here f v.0 (g.front ++ o) y.0 v.2) (g.same o n);
  }
  if_took ts a rest None k e = let g = r.took ts a rest e in record {
    front = g.front;
    split = g.split;
    reads = λ s t u o w. inr (g.reads s t u o w);
    same = λ o n. rw (next_by_next f ts (g.front ++ o) (ap next g.split ∙ next_behind g.front _ _ n) k) (g.same o n);
  }

  if_stuck : (ts : List Token) (cause : Cause) (rest : List Token) (o : Option (X × List Token)) → next_by f ts ≡ o → next_or o p (q ts) ≡ Err (cause, rest) → Stuck (Either f R Q) (if_next f p q) ts cause rest
  if_stuck ts cause rest (Some y) k e = let v = next_by_some f ts y.1 y.0 k in let g = (l v.0 y.0 v.2).stuck y.1 cause rest e in record {
    front = v.0 ∷ g.front;
    split = v.1 ∙ ap (λ z. v.0 ∷ z) g.split;
    more = g.more;
    found = g.found;
    begins = λ s t u o z w. inl (v.0, g.front ++ (g.more ++ o), y.0, refl, v.2, g.begins s t u o z w);
    fits = λ o w. inl (ap next v.1);
    same = λ o n. rw (next_by_here f v.0 (g.front ++ o) y.0 v.2) (g.same o n);
    beyond = λ i. let b = g.beyond i in record {
      token = b.token;
      after = b.after;
      here = b.here;
      more = b.more;
      found = b.found;
      begins = λ s t u h o z w. inl (v.0, g.front ++ b.token ∷ (b.more ++ o), y.0, refl, v.2, b.begins s t u h o z w);
    };
  }
  if_stuck ts cause rest None k e = let g = r.stuck ts cause rest e in record {
    front = g.front;
    split = g.split;
    more = g.more;
    found = g.found;
    begins = λ s t u o z w. inr (g.begins s t u o z w);
    fits = g.fits;
    same = λ o n. rw (next_by_next f ts (g.front ++ o) (ap next g.split ∙ next_behind g.front _ _ n) k) (g.same o n);
    beyond = λ i. let b = g.beyond i in record {
      token = b.token;
      after = b.after;
      here = b.here;
      more = b.more;
      found = b.found;
      begins = λ s t u h o z w. inr (b.begins s t u h o z w);
    };
  }

  pub follows_if : Follows (Either f R Q) (if_next f p q)
  follows_if = record {
    took = λ ts a rest e. if_took ts a rest (next_by f ts) refl e;
    stuck = λ ts cause rest e. if_stuck ts cause rest (next_by f ts) refl e;
    word = r.word;
    value = r.value;
    some = λ s t u o z y. inr (r.some s t u o z y);
    word_free = r.word_free;
  }

-- a token that f takes has to come: v is one
module _ {X A : Type 0} (f : Token → Option X) (R : Token → X → Relation A) (p : X → Parser A) (l : (v : Token) (x : X) → f v ≡ Some x → Follows (R v x) (p x)) (v : Token) (x : X) (here : f v ≡ Some x) (free : Free (Some v)) where
  pub follows_must : Follows (After f R) (must f p)
  follows_must = let m = l v x here in follows_weaker (λ b a ts rest h. elim h [ inl k ↦ k | inr k ↦ k ])
      (follows_if f R (After f R) p fails l
      (follows_fault (After f R) (v ∷ m.word) m.value (λ s t u o z y. (v, m.word ++ o, x, refl, here, m.some s t u o (spare_tail s t u v (m.word ++ o) z) y)) (λ o y. free)))

-- a token of one mark
abbrev pub token_of : List ℕ → Token
token_of m = record { place = record { line = 0; column = 0 }; kind = k.Mark m }

pub token_free : (m : List ℕ) → Free (Some (token_of m))
token_free m h = cc

-- a mark has to come
pub follows_mark : {A : Type 0} (m : List ℕ) (R : Relation A) (p : Parser A) → bytes_eq m m ≡ true → Follows R p → Follows (After (mark m) (λ _ _. R)) (must (mark m) (λ _. p))
follows_mark m R p e l = follows_must (mark m) (λ _ _. R) (λ _. p) (λ v x h. l) (token_of m) (token_of m).place (mark_here m m (token_of m) refl e) (token_free m)

-- a token of one reserved word
abbrev pub word_of : List ℕ → Token
word_of m = record { place = record { line = 0; column = 0 }; kind = k.Keyword m }

bytes_apart : (m n : List ℕ) → bytes_eq m n ≡ false → bytes_eq m m ≡ true → m ≡ n → ⊥
bytes_apart m n d e h = let w : bytes_eq m m ≡ false = ap (bytes_eq m) h ∙ d in cc (e, w)

pub word_free : (m : List ℕ) → bytes_eq m m ≡ true → bytes_eq m (codes "else") ≡ false → Free (Some (word_of m))
word_free m e d h = bytes_apart m (codes "else") d e cc

pub word_here : (m : List ℕ) → bytes_eq m m ≡ true → keyword m (word_of m) ≡ Some (word_of m).place
unfolding keyword
word_here m e = ap (λ b. place_if b (word_of m).place) e

-- a reserved word has to come
pub follows_keyword : {A : Type 0} (m : List ℕ) (R : Place → Relation A) (p : Place → Parser A) → bytes_eq m m ≡ true → bytes_eq m (codes "else") ≡ false → ((x : Place) → Follows (R x) (p x)) → Follows (After (keyword m) (λ _ x. R x)) (must (keyword m) p)
follows_keyword m R p e d l = follows_must (keyword m) (λ _ x. R x) p (λ v x h. l x) (word_of m) (word_of m).place (word_here m e) (word_free m e d)

-- ---- a choice by the token that comes first, which stays

module _ {A : Type 0} (R : Relation A) (f : Token → Bool) (p q : Parser A) (l : Follows R p) (r : Follows R q) where
  ahead_took : (ts : List Token) (a : A) (rest : List Token) (b : Bool) → is_next f ts ≡ b → cond b (p ts) (q ts) ≡ Ok (a, rest) → Took R (if_ahead f p q) ts a rest
  ahead_took ts a rest true k e = let g = l.took ts a rest e in record {
    front = g.front;
    split = g.split;
    reads = g.reads;
    same = λ o n. rw (sym (is_next_same f ts (g.front ++ o) (ap next g.split ∙ next_behind g.front _ _ n)) ∙ k) (g.same o n);
  }
  ahead_took ts a rest false k e = let g = r.took ts a rest e in record {
    front = g.front;
    split = g.split;
    reads = g.reads;
    same = λ o n. rw (sym (is_next_same f ts (g.front ++ o) (ap next g.split ∙ next_behind g.front _ _ n)) ∙ k) (g.same o n);
  }

  ahead_stuck : (ts : List Token) (cause : Cause) (rest : List Token) (b : Bool) → is_next f ts ≡ b → cond b (p ts) (q ts) ≡ Err (cause, rest) → Stuck R (if_ahead f p q) ts cause rest
  ahead_stuck ts cause rest true k e = let g = l.stuck ts cause rest e in record {
    front = g.front;
    split = g.split;
    more = g.more;
    found = g.found;
    begins = g.begins;
    fits = g.fits;
    same = λ o n. rw (sym (is_next_same f ts (g.front ++ o) (ap next g.split ∙ next_behind g.front _ _ n)) ∙ k) (g.same o n);
    beyond = g.beyond;
  }
  ahead_stuck ts cause rest false k e = let g = r.stuck ts cause rest e in record {
    front = g.front;
    split = g.split;
    more = g.more;
    found = g.found;
    begins = g.begins;
    fits = g.fits;
    same = λ o n. rw (sym (is_next_same f ts (g.front ++ o) (ap next g.split ∙ next_behind g.front _ _ n)) ∙ k) (g.same o n);
    beyond = g.beyond;
  }

  pub follows_ahead : Follows R (if_ahead f p q)
  follows_ahead = record {
    took = λ ts a rest e. ahead_took ts a rest (is_next f ts) refl e;
    stuck = λ ts cause rest e. ahead_stuck ts cause rest (is_next f ts) refl e;
    word = l.word;
    value = l.value;
    some = l.some;
    word_free = l.word_free;
  }

-- ---- the place of the first token

-- c is made of the place of the first token and of what stands in the pair
abbrev pub Placed : {P C : Type 0} → (Place → P → C) → Relation P → Relation C
Placed {P} make R b y ts rest = (a : P) × R b a ts rest × (y ≡ make (first_place ts) a)

abbrev pub with_place : {P C : Type 0} → (Place → P → C) → Parser P → Parser C
with_place make p = λ ts. and_then (p ts) (λ a. pure (make (first_place ts) a))

-- what comes first stays when other tokens follow
pub place_before : (x other : List Token) → 0 < length x → first_place (x ++ other) ≡ first_place x
place_before [] other h = absurd (omega arith)
place_before (v ∷ x) other h = refl

place_to : (x : List Token) (v : Token) (other : List Token) → first_place (x ++ v ∷ other) ≡ first_place (x ++ v ∷ [])
place_to [] v other = refl
place_to (w ∷ x) v other = refl

module _ {P C : Type 0} (make : Place → P → C) (R : Relation P) (p : Parser P) (l : Follows R p) (shorter : (b : Bounds) (a : P) (ts rest : List Token) → R b a ts rest → length rest < length ts) where
  place_took : (ts : List Token) (y : C) (rest : List Token) → and_then (p ts) (λ a. pure (make (first_place ts) a)) ≡ Ok (y, rest) → Took (Placed make R) (with_place make p) ts y rest
  place_took ts y rest h =
      let x = bind_ok (p ts) (λ a. pure (make (first_place ts) a)) y rest h in
      let i : x.1 ≡ rest = ap (λ z. z.1) (ok_parts x.3) in
      let v : make (first_place ts) x.0 ≡ y = ap (λ z. z.0) (ok_parts x.3) in
      let k = l.took ts x.0 rest (x.2 ∙ ap (λ z. Ok (x.0, z)) i) in
      let some : 0 < length k.front = omega (arith, shorter _ _ _ _ (k.reads false false 0 rest (inl refl)), length-append k.front rest) in
      let moved : (o : List Token) → y ≡ make (first_place (k.front ++ o)) x.0 = λ o. sym v ∙ ap (λ z. make z x.0) (ap first_place k.split ∙ place_ahead k.front rest o some) in
      record {
        front = k.front;
        split = k.split;
        reads = λ s t u o w. (x.0, k.reads s t u o w, moved o);
        same = λ o n. rw (k.same o n) (ap (λ z. Ok (z, o)) (sym (moved o)));
      }

  place_beyond : (cause : Cause) (front rest : List Token) → Beyond R cause front rest → Beyond (Placed make R) cause front rest
  place_beyond cause front rest b = record {
    token = b.token;
    after = b.after;
    here = b.here;
    more = b.more;
    found = make (first_place (front ++ b.token ∷ [])) b.found;
    begins = λ s t u g o z w. (b.found, b.begins s t u g o z w, ap (λ q. make q b.found) (sym (place_to front b.token (b.more ++ o))));
  }

  place_stuck : (ts : List Token) (cause : Cause) (rest : List Token) → and_then (p ts) (λ a. pure (make (first_place ts) a)) ≡ Err (cause, rest) → Stuck (Placed make R) (with_place make p) ts cause rest
  place_stuck ts cause rest h = elim (bind_err (p ts) (λ a. pure (make (first_place ts) a)) cause rest h) [
    | inl e ↦ (let k = l.stuck ts cause rest e in
        let some : 0 < length (k.front ++ k.more) = omega (arith, shorter _ _ _ _ (k.begins false false 0 [] (inr (refl, refl)) tt), length-append k.front (k.more ++ []), length-append k.more [], length-append k.front k.more) in
        record {
          front = k.front;
          split = k.split;
          more = k.more;
          found = make (first_place (k.front ++ k.more)) k.found;
          fits = k.fits;
          begins = λ s t u o z w. (k.found, k.begins s t u o z w, ap (λ q. make q k.found) (sym (place_before (k.front ++ k.more) o some) ∙ ap first_place (append_assoc k.front k.more o)));
          same = λ o n. rw (k.same o n) refl;
          beyond = λ i. place_beyond cause k.front rest (k.beyond i);
        })
    | inr x ↦ (let z : ⊥ = cc x.3 in absurd z)
  ]

  pub follows_place : Follows (Placed make R) (with_place make p)
  follows_place =
      let some : 0 < length l.word = omega (arith, shorter _ _ _ _ (l.some false false 0 [] (inr (refl, refl)) tt), length-append l.word []) in
      record {
        took = place_took;
        stuck = place_stuck;
        word = l.word;
        value = make (first_place l.word) l.value;
        some = λ s t u o z w. (l.value, l.some s t u o z w, ap (λ q. make q l.value) (sym (place_before l.word o some)));
        word_free = l.word_free;
      }

-- two parts, and the place of the first token
abbrev pub Both : {A B C : Type 0} → (Place → A → B → C) → Relation A → Relation B → Relation C
Both {A} {B} make R Q b y ts rest = (a : A) × (e : B) × (us : List Token) × R b a ts us × Q b e us rest × (y ≡ make (first_place ts) a e)

module _ {A B C : Type 0} (make : Place → A → B → C) (R : Relation A) (Q : Relation B) (p : Parser A) (q : Parser B) (l : Follows R p) (r : Follows Q q)
    (shorter : (w : Bounds) (a : A) (b : B) (ts us rest : List Token) → R w a ts us → Q w b us rest → length rest < length ts) where
  placed_second : (ts : List Token) (a : A) (o : Outcome B) → and_then {A = A × B} (and_then o (λ b. pure {A = A × B} (a, b))) (λ x. pure (make (first_place ts) x.0 x.1)) ≡ and_then o (λ b. pure (make (first_place ts) a b))
  placed_second ts a (Ok x) = refl
  placed_second ts a (Err e) = refl

  placed_first : (ts : List Token) (o : Outcome A) → and_then {A = A × B} (and_then o (λ a. q >>= λ b. pure {A = A × B} (a, b))) (λ x. pure (make (first_place ts) x.0 x.1)) ≡ and_then o (λ a. q >>= λ b. pure (make (first_place ts) a b))
  placed_first ts (Ok x) = placed_second ts x.0 (q x.1)
  placed_first ts (Err e) = refl

  pub follows_placed : Follows (Both make R Q) (placed make p q)
  follows_placed = follows_same (λ ts. placed_first ts (p ts)) (follows_weaker
      (λ w y ts rest (x, (a, us, d, (b, vs, f, (i, j))), e). (a, b, us, d, rw (← j) f, e ∙ ap (λ z. make (first_place ts) z.0 z.1) i))
      (follows_place (λ at x. make at x.0 x.1) (Then R (λ a. Then Q (λ b. Nothing {A = A × B} (a, b)))) (p >>= λ a. q >>= λ b. pure {A = A × B} (a, b))
      (follows_bind R _ p _ l (λ a. follows_bind Q _ q _ r (λ b. follows_pure {A = A × B} (a, b))))
      (λ w x ts rest (a, us, d, (b, vs, f, (i, j))). shorter w a b ts us rest d (rw (← j) f))))
