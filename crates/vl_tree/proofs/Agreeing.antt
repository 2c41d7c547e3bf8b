-- Two parsers that read the same from so many tokens at most, by the combinators.
use Rattle.std.proofs.Common.{◌≡◌, ℕ, zero, suc, ◌+◌, ◌<◌, ◌≤◌, inl, Bool, true, false, cond, length, List, [], ◌∷◌, ◌++◌, Ok, Err, Option, Some, None, refl, ap, arith}
use Rattle.std.specs.Prelude.{codes}
use Rattle.vl_base.specs.declared.place.Place.{Place}
use Rattle.vl_tree.specs.declared.token.Token.{Token}
use Rattle.vl_tree.specs.Grammar.{first_place}
use Rattle.vl_tree.specs.Reading.{next_by, is_next, mark, keyword, behind}
use Rattle.vl_tree.proofs.Follows.{next_by_some}
use Rattle.vl_tree.specs.Parsers.{Outcome, Parser, and_then, ◌>>=◌, pure, fails, next_or, if_next, must, if_ahead, placed, identifier, word, optional, parenthesized, many, list, before, groups}
use Rattle.vl_tree.proofs.FollowsOfSource.{Relation, Follows, bounds, left}

-- p reads from b tokens at most what q reads, and leaves no more than it is given
pub record Agree {A : Type 0} (b : ℕ) (p q : Parser A) : Type 0 where
  pub same : (ts : List Token) → length ts ≤ b → p ts ≡ q ts
  pub less : (ts : List Token) → left (p ts) ≤ length ts

pub agree_pure : {A : Type 0} {b : ℕ} {a : A} → Agree b (pure a) (pure a)
agree_pure = record { same = λ ts h. refl; less = λ ts. omega arith }

pub agree_fails : {A : Type 0} {b : ℕ} → Agree {A = A} b fails fails
agree_fails = record { same = λ ts h. refl; less = λ ts. omega arith }

-- ---- one after another

bind_same : {A B : Type 0} (b : ℕ) (f g : A → Parser B) → ((a : A) → Agree b (f a) (g a)) → (o : Outcome A) → left o ≤ b → and_then o f ≡ and_then o g
bind_same b f g l (Ok x) h = (l x.0).same x.1 h
bind_same b f g l (Err e) h = refl

bind_less : {A B : Type 0} (b : ℕ) (f g : A → Parser B) → ((a : A) → Agree b (f a) (g a)) → (o : Outcome A) → left (and_then o f) ≤ left o
bind_less b f g l (Ok x) = (l x.0).less x.1
bind_less b f g l (Err e) = omega arith

pub agree_bind : {A B : Type 0} {b : ℕ} {p q : Parser A} {f g : A → Parser B} → Agree b p q → ((a : A) → Agree b (f a) (g a)) → Agree b (p >>= f) (q >>= g)
agree_bind {A} {B} {b} {p} {q} {f} {g} k l = record {
  same = λ ts h. let less = k.less ts in rw (← k.same ts h) (bind_same b f g l (p ts) (omega (arith, less)));
  less = λ ts. let less = k.less ts in let other = bind_less b f g l (p ts) in omega (arith, less, other);
}

placed_less : {A B C : Type 0} (make : A → B → C) (b : ℕ) (p q : Parser B) → Agree b p q → (o : Outcome A) → left (and_then o (λ a. p >>= λ e. pure (make a e))) ≤ left o
placed_less make b p q l o = bind_less b (λ a. p >>= λ e. pure (make a e)) (λ a. q >>= λ e. pure (make a e)) (λ a. agree_bind l (λ e. agree_pure)) o

pub agree_placed : {A B C : Type 0} {b : ℕ} (make : Place → A → B → C) {p q : Parser A} {r s : Parser B} → Agree b p q → Agree b r s → Agree b (placed make p r) (placed make q s)
agree_placed {A} {B} {C} {b} make {p} {q} {r} {s} k l = record {
  same = λ ts h. let less = k.less ts in rw (← k.same ts h) (bind_same b (λ a. r >>= λ e. pure (make (first_place ts) a e)) (λ a. s >>= λ e. pure (make (first_place ts) a e)) (λ a. agree_bind l (λ e. agree_pure)) (p ts) (omega (arith, less)));
  less = λ ts. let less = k.less ts in let other = placed_less (make (first_place ts)) b r s l (p ts) in omega (arith, less, other);
}

-- ---- by the token that comes first

next_same : {X A : Type 0} (f : Token → Option X) (b : ℕ) (p q : X → Parser A) → ((x : X) → Agree b (p x) (q x)) → (y z : Outcome A) → y ≡ z → (ts : List Token) → length ts ≤ b → (o : Option (X × List Token)) → next_by f ts ≡ o → next_or o p y ≡ next_or o q z
next_same f b p q l y z i ts h (Some x) e = let s = next_by_some f ts x.1 x.0 e in (l x.0).same x.1 (omega (arith, h, ap length s.1))
next_same f b p q l y z i ts h None e = i

next_less : {X A : Type 0} (f : Token → Option X) (b : ℕ) (p q : X → Parser A) → ((x : X) → Agree b (p x) (q x)) → (y : Outcome A) → (ts : List Token) → left y ≤ length ts → (o : Option (X × List Token)) → next_by f ts ≡ o → left (next_or o p y) ≤ length ts
next_less f b p q l y ts h (Some x) e = let s = next_by_some f ts x.1 x.0 e in let less = (l x.0).less x.1 in omega (arith, less, ap length s.1)
next_less f b p q l y ts h None e = h

pub agree_if : {X A : Type 0} {b : ℕ} (f : Token → Option X) {p q : X → Parser A} {r s : Parser A} → ((x : X) → Agree b (p x) (q x)) → Agree b r s → Agree b (if_next f p r) (if_next f q s)
agree_if {X} {A} {b} f {p} {q} {r} {s} l k = record {
  same = λ ts h. next_same f b p q l (r ts) (s ts) (k.same ts h) ts h (next_by f ts) refl;
  less = λ ts. next_less f b p q l (r ts) ts (k.less ts) (next_by f ts) refl;
}

pub agree_must : {X A : Type 0} {b : ℕ} (f : Token → Option X) {p q : X → Parser A} → ((x : X) → Agree b (p x) (q x)) → Agree b (must f p) (must f q)
agree_must f l = agree_if f l agree_fails

pub cond_same : {A : Type 0} (c : Bool) (y z v w : Outcome A) → y ≡ z → v ≡ w → cond c y v ≡ cond c z w
cond_same true y z v w i j = i
cond_same false y z v w i j = j

pub cond_less : {A : Type 0} (n : ℕ) (c : Bool) (y v : Outcome A) → left y ≤ n → left v ≤ n → left (cond c y v) ≤ n
cond_less n true y v i j = i
cond_less n false y v i j = j

pub agree_ahead : {A : Type 0} {b : ℕ} (f : Token → Bool) {p q r s : Parser A} → Agree b p q → Agree b r s → Agree b (if_ahead f p r) (if_ahead f q s)
agree_ahead {A} {b} f {p} {q} {r} {s} k l = record {
  same = λ ts h. cond_same (is_next f ts) (p ts) (q ts) (r ts) (s ts) (k.same ts h) (l.same ts h);
  less = λ ts. cond_less (length ts) (is_next f ts) (p ts) (r ts) (k.less ts) (l.less ts);
}

-- ---- where the token gives the parser

pub data AgreeMaybe {A : Type 0} (b : ℕ) : Option (Parser A) → Option (Parser A) → Type 0 where
  neither : AgreeMaybe b None None
  each : {p q : Parser A} → Agree b p q → AgreeMaybe b (Some p) (Some q)

pub maybe_cond : {A : Type 0} {b : ℕ} {x y v w : Option (Parser A)} (c : Bool) → AgreeMaybe b x y → AgreeMaybe b v w → AgreeMaybe b (cond c x v) (cond c y w)
maybe_cond true i j = i
maybe_cond false i j = j

behind_same : {A : Type 0} (b : ℕ) (x y : Option (Parser A)) → AgreeMaybe b x y → (us : List Token) → length us ≤ b → (v w : Outcome A) → v ≡ w → next_or (behind us x) (λ p. p) v ≡ next_or (behind us y) (λ p. p) w
behind_same b x y AgreeMaybe.neither us h v w i = i
behind_same b x y (AgreeMaybe.each l) us h v w i = l.same us h

behind_less : {A : Type 0} (b : ℕ) (x y : Option (Parser A)) → AgreeMaybe b x y → (us : List Token) → (v : Outcome A) → left v ≤ length us + 1 → left (next_or (behind us x) (λ p. p) v) ≤ length us + 1
behind_less b x y AgreeMaybe.neither us v h = h
behind_less b x y (AgreeMaybe.each l) us v h = let less = l.less us in omega (arith, less)

module _ {A : Type 0} (b : ℕ) (f g : Token → Option (Parser A)) (l : (v : Token) → AgreeMaybe b (f v) (g v)) where
  pub agree_by : {r s : Parser A} → Agree b r s → Agree b (if_next f (λ p. p) r) (if_next g (λ p. p) s)
  unfolding next_by
  agree_by {r} {s} k = record { same = same_by; less = less_by }
    where
      same_by : (ts : List Token) → length ts ≤ b → if_next f (λ p. p) r ts ≡ if_next g (λ p. p) s ts
      same_by [] h = k.same [] h
      same_by (v ∷ us) h = behind_same b (f v) (g v) (l v) us (omega (arith, h)) (r (v ∷ us)) (s (v ∷ us)) (k.same (v ∷ us) h)

      less_by : (ts : List Token) → left (if_next f (λ p. p) r ts) ≤ length ts
      less_by [] = k.less []
      less_by (v ∷ us) = let e = k.less (v ∷ us) in let i = behind_less b (f v) (g v) (l v) us (r (v ∷ us)) (omega (arith, e)) in omega (arith, i)

-- ---- what is left

-- no more is left than there was
abbrev pub Keeps : {A : Type 0} → Parser A → Type 0
Keeps p = (ts : List Token) → left (p ts) ≤ length ts

keeps_and_then : {A B : Type 0} (f : A → Parser B) → ((a : A) → Keeps (f a)) → (o : Outcome A) → left (and_then o f) ≤ left o
keeps_and_then f l (Ok x) = l x.0 x.1
keeps_and_then f l (Err e) = omega arith

pub keeps_bind : {A B : Type 0} (p : Parser A) (f : A → Parser B) → Keeps p → ((a : A) → Keeps (f a)) → Keeps (p >>= f)
keeps_bind p f k l ts = let less = k ts in let other = keeps_and_then f l (p ts) in omega (arith, less, other)

keeps_next : {X A : Type 0} (f : Token → Option X) (p : X → Parser A) → ((x : X) → Keeps (p x)) → (y : Outcome A) → (ts : List Token) → left y ≤ length ts → (o : Option (X × List Token)) → next_by f ts ≡ o → left (next_or o p y) ≤ length ts
keeps_next f p l y ts h (Some x) e = let s = next_by_some f ts x.1 x.0 e in let less = l x.0 x.1 in omega (arith, less, ap length s.1)
keeps_next f p l y ts h None e = h

pub keeps_if : {X A : Type 0} (f : Token → Option X) (p : X → Parser A) (r : Parser A) → ((x : X) → Keeps (p x)) → Keeps r → Keeps (if_next f p r)
keeps_if f p r l k ts = keeps_next f p l (r ts) ts (k ts) (next_by f ts) refl

pub keeps_pure : {A : Type 0} (a : A) → Keeps (pure a)
keeps_pure a ts = omega arith

-- some of the tokens are taken where something is read
abbrev pub Takes : {A : Type 0} → Parser A → Type 0
Takes {A} p = (ts us : List Token) (a : A) → p ts ≡ Ok (a, us) → length us < length ts

takes_and_then : {A B : Type 0} (f : A → Parser B) → ((a : A) → Keeps (f a)) → (o : Outcome A) (n : ℕ) → ((a : A) (us : List Token) → o ≡ Ok (a, us) → length us < n) → (us : List Token) (b : B) → and_then o f ≡ Ok (b, us) → length us < n
takes_and_then f l (Ok x) n h us b e = let less = l x.0 x.1 in let more = h x.0 x.1 refl in omega (arith, less, more, ap left e)
takes_and_then f l (Err x) n h us b e = let z : ⊥ = cc in absurd z

pub takes_bind : {A B : Type 0} (p : Parser A) (f : A → Parser B) → Takes p → ((a : A) → Keeps (f a)) → Takes (p >>= f)
takes_bind p f k l ts us b e = takes_and_then f l (p ts) (length ts) (λ a vs g. k ts vs a g) us b e

takes_next : {X A : Type 0} (f : Token → Option X) (p : X → Parser A) → ((x : X) → Keeps (p x)) → (y : Outcome A) → (ts us : List Token) (a : A) → (y ≡ Ok (a, us) → length us < length ts) → (o : Option (X × List Token)) → next_by f ts ≡ o → next_or o p y ≡ Ok (a, us) → length us < length ts
takes_next f p l y ts us a h (Some x) e g = let s = next_by_some f ts x.1 x.0 e in let less = l x.0 x.1 in omega (arith, less, ap length s.1, ap left g)
takes_next f p l y ts us a h None e g = h g

pub takes_if : {X A : Type 0} (f : Token → Option X) (p : X → Parser A) (r : Parser A) → ((x : X) → Keeps (p x)) → Takes r → Takes (if_next f p r)
takes_if f p r l k ts us a e = takes_next f p l (r ts) ts us a (k ts us a) (next_by f ts) refl e

pub takes_placed : {A B C : Type 0} (make : Place → A → B → C) (p : Parser A) (q : Parser B) → Takes p → Keeps q → Takes (placed make p q)
takes_placed make p q k l ts us c e = takes_and_then (λ a. q >>= λ b. pure (make (first_place ts) a b)) (λ a. keeps_bind q (λ b. pure (make (first_place ts) a b)) l (λ b. keeps_pure (make (first_place ts) a b))) (p ts) (length ts) (λ a vs g. k ts vs a g) us c e

pub takes_follows : {A : Type 0} (R : Relation A) (p : Parser A) → Follows R p → ((a : A) (ts rest : List Token) → R (bounds false false 0) a ts rest → length rest < length ts) → Takes p
takes_follows R p l s ts us a e = let k = l.took ts a us e in let less = s a (k.front ++ us) us (k.reads false false 0 us (inl refl)) in omega (arith, less, ap length k.split)

-- ---- lists: the number of each is more than there are tokens

step_next : {X A : Type 0} (f : Token → Option X) (p q : X → Parser A) (ts : List Token) (y z : Outcome A) (o : Option (X × List Token)) → next_by f ts ≡ o → ((v : Token) (us : List Token) (x : X) → ts ≡ v ∷ us → p x us ≡ q x us) → y ≡ z → next_or o p y ≡ next_or o q z
step_next f p q ts y z (Some x) e h i = let s = next_by_some f ts x.1 x.0 e in h s.0 x.1 x.0 s.1
step_next f p q ts y z None e h i = i

pub step_if : {X A : Type 0} (f : Token → Option X) (p q : X → Parser A) (y z : Outcome A) (ts : List Token) → ((v : Token) (us : List Token) (x : X) → ts ≡ v ∷ us → p x us ≡ q x us) → y ≡ z → next_or (next_by f ts) p y ≡ next_or (next_by f ts) q z
step_if f p q y z ts h i = step_next f p q ts y z (next_by f ts) refl h i

pub step_bind : {A B : Type 0} (o : Outcome A) (f g : A → Parser B) → ((a : A) (us : List Token) → o ≡ Ok (a, us) → f a us ≡ g a us) → and_then o f ≡ and_then o g
step_bind (Ok x) f g h = h x.0 x.1 refl
step_bind (Err e) f g h = refl

module _ {X A : Type 0} {b : ℕ} (f : Token → Option X) (p q : X → Parser A) (l : (x : X) → Agree b (p x) (q x)) where
  many_keeps : (n : ℕ) → Keeps (many f p n)
  unfolding many
  many_keeps zero ts = omega arith
  many_keeps (suc n) ts = keeps_if f _ (pure []) (λ x. keeps_bind (p x) _ (l x).less (λ a. keeps_bind (many f p n) _ (many_keeps n) (λ others. keeps_pure (a ∷ others)))) (keeps_pure {A = List A} []) ts

  many_same : (n m : ℕ) (ts : List Token) → length ts ≤ b → length ts < n → length ts < m → many f p n ts ≡ many f q m ts
  unfolding many
  many_same zero m ts h i j = absurd (omega (arith, i))
  many_same (suc n) zero ts h i j = absurd (omega (arith, j))
  many_same (suc n) (suc m) ts h i j = step_if f _ _ _ _ ts (λ v us x e. let size = ap length e in rw (← (l x).same us (omega (arith, size, h)))
      (step_bind (p x us) _ _ (λ a vs g. let less : length vs ≤ length us = omega (arith, (l x).less us, ap left g) in
      ap (λ o. and_then o (λ others. pure (a ∷ others))) (many_same n m vs (omega (arith, size, h)) (omega (arith, size, i)) (omega (arith, size, j)))))) refl

  pub agree_many : (n m : ℕ) → b < n → b < m → Agree b (many f p n) (many f q m)
  agree_many n m i j = record { same = λ ts h. many_same n m ts h (omega (arith, h, i)) (omega (arith, h, j)); less = many_keeps n }

pub agree_list : {A : Type 0} {b : ℕ} {p q : Parser A} (n m : ℕ) → b < n → b < m → Agree b p q → Agree b (list p n) (list q m)
unfolding list
agree_list {A} {b} {p} {q} n m i j l = agree_bind l (λ a. agree_bind (agree_many (mark (codes ",")) (λ _. p) (λ _. q) (λ _. l) n m i j) (λ others. agree_pure))

pub agree_parenthesized : {A : Type 0} {b : ℕ} {p q : Parser A} → Agree b p q → Agree b (parenthesized p) (parenthesized q)
agree_parenthesized l = agree_must _ (λ _. agree_bind l (λ a. agree_must _ (λ _. agree_pure)))

pub agree_optional : {X A : Type 0} {b : ℕ} (f : Token → Option X) {p q : X → Parser A} → ((x : X) → Agree b (p x) (q x)) → Agree b (optional f p) (optional f q)
agree_optional f l = agree_if f (λ x. agree_bind (l x) (λ a. agree_pure)) agree_pure

pub agree_identifier : {b : ℕ} → Agree b identifier identifier
unfolding identifier
agree_identifier = agree_must _ (λ i. agree_pure)

pub agree_word : {b : ℕ} (w : List ℕ) → Agree b (word w) (word w)
unfolding word
agree_word w = agree_if (keyword w) (λ x. agree_pure) agree_pure

-- { x }, up to a token that ends it
module _ {A : Type 0} {b : ℕ} (f : Token → Bool) (p q : Parser A) (l : Agree b p q) (takes : Takes p) where
  before_keeps : (n : ℕ) → Keeps (before f p n)
  unfolding before
  before_keeps zero ts = omega arith
  before_keeps (suc n) ts = cond_less (length ts) (is_next f ts) _ _ (omega arith) (keeps_bind p _ l.less (λ a. keeps_bind (before f p n) _ (before_keeps n) (λ others. keeps_pure (a ∷ others))) ts)

  before_same : (n m : ℕ) (ts : List Token) → length ts ≤ b → length ts < n → length ts < m → before f p n ts ≡ before f q m ts
  unfolding before
  before_same zero m ts h i j = absurd (omega (arith, i))
  before_same (suc n) zero ts h i j = absurd (omega (arith, j))
  before_same (suc n) (suc m) ts h i j = cond_same (is_next f ts) _ _ _ _ refl (rw (← l.same ts h) (step_bind (p ts) _ _ (λ a us g. let less = takes ts us a g in
      ap (λ o. and_then o (λ others. pure (a ∷ others))) (before_same n m us (omega (arith, less, h)) (omega (arith, less, i)) (omega (arith, less, j))))))

  pub agree_before : (n m : ℕ) → b < n → b < m → Agree b (before f p n) (before f q m)
  agree_before n m i j = record { same = λ ts h. before_same n m ts h (omega (arith, h, i)) (omega (arith, h, j)); less = before_keeps n }

-- groups whose members stand between commas too
module _ {G : Type 0} {b : ℕ} (opens : Token → Bool) (head other : Parser G) (grow more : G → Parser G) (l : Agree b head other) (k : (g : G) → Agree b (grow g) (more g)) where
  groups_keep : (n : ℕ) (g : G) → Keeps (groups opens head grow n g)
  unfolding groups
  groups_keep zero g ts = omega arith
  groups_keep (suc n) g ts = keeps_if (mark (codes ",")) _ (pure (g ∷ [])) (λ x us. cond_less (length us) (is_next opens us) _ _
      (keeps_bind head _ l.less (λ h. keeps_bind (groups opens head grow n h) _ (groups_keep n h) (λ gs. keeps_pure (g ∷ gs))) us) (keeps_bind (grow g) _ (k g).less (λ h. groups_keep n h) us)) (keeps_pure (g ∷ [])) ts

  groups_same : (n m : ℕ) (g : G) (ts : List Token) → length ts ≤ b → length ts < n → length ts < m → groups opens head grow n g ts ≡ groups opens other more m g ts
  unfolding groups
  groups_same zero m g ts h i j = absurd (omega (arith, i))
  groups_same (suc n) zero g ts h i j = absurd (omega (arith, j))
  groups_same (suc n) (suc m) g ts h i j = step_if (mark (codes ",")) _ _ _ _ ts (λ v us x e. let size = ap length e in cond_same (is_next opens us) _ _ _ _
      (rw (← l.same us (omega (arith, size, h))) (step_bind (head us) _ _ (λ a vs y. let less : length vs ≤ length us = omega (arith, l.less us, ap left y) in
      ap (λ o. and_then o (λ gs. pure (g ∷ gs))) (groups_same n m a vs (omega (arith, size, h)) (omega (arith, size, i)) (omega (arith, size, j))))))
      (rw (← (k g).same us (omega (arith, size, h))) (step_bind (grow g us) _ _ (λ a vs y. let less : length vs ≤ length us = omega (arith, (k g).less us, ap left y) in
      groups_same n m a vs (omega (arith, size, h)) (omega (arith, size, i)) (omega (arith, size, j)))))) refl

  pub agree_groups : (n m : ℕ) → b < n → b < m → (g : G) → Agree b (groups opens head grow n g) (groups opens other more m g)
  agree_groups n m i j g = record { same = λ ts h. groups_same n m g ts h (omega (arith, h, i)) (omega (arith, h, j)); less = groups_keep n g }

-- { x }, each by the token that comes first, which gives the parser
behind_step : {A B : Type 0} (b : ℕ) (x y : Option (Parser A)) → AgreeMaybe b x y → (us : List Token) (f g : Parser A → Parser B) → ((p q : Parser A) → Agree b p q → f p us ≡ g q us) → (v : Outcome B) → next_or (behind us x) f v ≡ next_or (behind us y) g v
behind_step b x y AgreeMaybe.neither us f g h v = refl
behind_step b x y (AgreeMaybe.each {p} {q} l) us f g h v = h p q l

behind_keeps : {A B : Type 0} (b : ℕ) (x y : Option (Parser A)) → AgreeMaybe b x y → (us : List Token) (f : Parser A → Parser B) → ((p q : Parser A) → Agree b p q → left (f p us) ≤ length us + 1) → (v : Outcome B) → left v ≤ length us + 1 → left (next_or (behind us x) f v) ≤ length us + 1
behind_keeps b x y AgreeMaybe.neither us f h v i = i
behind_keeps b x y (AgreeMaybe.each {p} {q} l) us f h v i = h p q l

module _ {A : Type 0} {b : ℕ} (f g : Token → Option (Parser A)) (l : (v : Token) → AgreeMaybe b (f v) (g v)) where
  each_keeps : (n : ℕ) → Keeps (many f (λ p. p) n)
  unfolding many next_by
  each_keeps zero ts = omega arith
  each_keeps (suc n) [] = omega arith
  each_keeps (suc n) (v ∷ us) = let h = behind_keeps b (f v) (g v) (l v) us (λ p. p >>= λ a. many f (λ p. p) n >>= λ others. pure (a ∷ others)) (λ p q k. let less = keeps_bind p (λ a. many f (λ p. p) n >>= λ others. pure (a ∷ others)) k.less (λ a. keeps_bind (many f (λ p. p) n) (λ others. pure (a ∷ others)) (each_keeps n) (λ others. keeps_pure (a ∷ others))) us in omega (arith, less)) (Ok ([], v ∷ us)) (omega arith) in omega (arith, h)

  each_same : (n m : ℕ) (ts : List Token) → length ts ≤ b → length ts < n → length ts < m → many f (λ p. p) n ts ≡ many g (λ p. p) m ts
  unfolding many next_by
  each_same zero m ts h i j = absurd (omega (arith, i))
  each_same (suc n) zero ts h i j = absurd (omega (arith, j))
  each_same (suc n) (suc m) [] h i j = refl
  each_same (suc n) (suc m) (v ∷ us) h i j = behind_step b (f v) (g v) (l v) us _ _ (λ p q k. rw (← k.same us (omega (arith, h))) (step_bind (p us) _ _ (λ a vs y. let less : length vs ≤ length us = omega (arith, k.less us, ap left y) in
      ap (λ o. and_then o (λ others. pure (a ∷ others))) (each_same n m vs (omega (arith, h)) (omega (arith, i)) (omega (arith, j)))))) (Ok ([], v ∷ us))

  pub agree_each : (n m : ℕ) → b < n → b < m → Agree b (many f (λ p. p) n) (many g (λ p. p) m)
  agree_each n m i j = record { same = λ ts h. each_same n m ts h (omega (arith, h, i)) (omega (arith, h, j)); less = each_keeps n }
