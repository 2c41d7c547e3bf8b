-- Parts that may be missing, lists of parts, and an `else`: what is read follows the grammar.
use Rattle.std.proofs.Common.{◌≡◌, ℕ, zero, suc, ◌⊎◌, inl, inr, Bool, true, false, List, [], ◌∷◌, ◌++◌, Ok, Option, Some, None, refl, sym, ap, ◌∙◌}
use Rattle.std.specs.Prelude.{codes}
use Rattle.vl_base.specs.declared.place.Place.{Place}
use Rattle.vl_tree.specs.declared.token.Token.{Token}
use Rattle.vl_tree.specs.declared.token.TokenKind.TheVariants as k
use Rattle.vl_tree.specs.MarksOfGrammar.{IsMark}
use Rattle.vl_tree.specs.Reading.{next_by, mark, keyword}
use Rattle.vl_tree.proofs.Follows.{next, Free, Fits, next_by_some, next_by_here, next_by_next}
use Rattle.vl_tree.proofs.MarkLemmas.{mark_some}
use Rattle.vl_tree.proofs.Otherwise.{not_next}
use Rattle.vl_tree.specs.Bounds.{Bounds}
use Rattle.vl_tree.specs.Lists.{ReadsOptional, ReadsMany, ReadsList, ReadsParenthesized, ReadsWord, ReadsIdentifier}
use Rattle.vl_tree.specs.Parsers.{Parser, ◌>>=◌, pure, if_next, must, next_or, identifier_token, identifier, word, optional, parenthesized, many, list, before, groups}
use Rattle.vl_tree.proofs.Words.{keyword_some, name_some, name_here}
use Rattle.vl_tree.proofs.FollowsOfSource.{Relation, Follows, Took, Then, After, Either, Nothing, bounds, ok_parts, follows_weaker, follows_pure, follows_fault, follows_bind, follows_if, follows_must, follows_mark, follows_ahead}
pub use Rattle.vl_tree.proofs.Otherwise.{free_along}

-- ---- names and words

abbrev any_name : Token
any_name = record { place = record { line = 0; column = 0 }; kind = k.Name (codes "a") }

pub follows_identifier : Follows (λ _. ReadsIdentifier) identifier
unfolding identifier
follows_identifier = follows_weaker (λ b n ts rest (v, us, i, e, h, (j, g)). let m = name_some v i h in rw (e, g, j, m.2) (ReadsIdentifier.identifier m.1))
    (follows_must identifier_token (λ _ n. Nothing n) (λ n. pure n) (λ v n h. follows_pure n) any_name _ (name_here (codes "a") any_name refl) (λ h. cc))

pub follows_word : (w : List ℕ) → Follows (λ _. ReadsWord w) (word w)
unfolding word
follows_word w = follows_weaker (λ b a ts rest h. elim h [
  | inl (v, us, p, e, i, (j, g)) ↦ rw (e, j, g) (ReadsWord.a_word (keyword_some w v p i).0)
  | inr (j, g) ↦ rw (j, g) ReadsWord.no_word
])
    (follows_if (keyword w) (λ _ _. Nothing true) (Nothing false) (λ _. pure true) (pure false) (λ v x h. follows_pure true) (follows_pure false))

-- ---- parts that may be missing, and parentheses

pub follows_optional : {X A : Type 0} (f : Token → Option X) (R : Token → X → Relation A) (Q : Relation A) (p : X → Parser A) → ((v : Token) (x : X) → f v ≡ Some x → Follows (R v x) (p x))
    → ((b : Bounds) (v : Token) (x : X) (a : A) (ts rest : List Token) → f v ≡ Some x → R v x b a ts rest → Q b a (v ∷ ts) rest) → Follows (λ b. ReadsOptional (Q b)) (optional f p)
follows_optional f R Q p l from = follows_weaker (λ b y ts rest h. elim h [
  | inl (v, us, x, e, i, (a, vs, d, (j, g))) ↦ rw (e, j) (ReadsOptional.something (from b v x a us rest i (rw g at d)))
  | inr (j, g) ↦ rw (j, g) ReadsOptional.nothing
])
    (follows_if f (λ v x. Then (R v x) (λ a. Nothing (Some a))) (Nothing None) _ _ (λ v x h. follows_bind (R v x) _ (p x) _ (l v x h) (λ a. follows_pure (Some a))) (follows_pure None))

-- behind "(": x ")"
abbrev pub Closed : {A : Type 0} → Relation A → Relation A
Closed R = Then R (λ a. After (mark (codes ")")) (λ _ _. Nothing a))

pub follows_closed : {A : Type 0} (R : Relation A) (p : Parser A) → Follows R p → Follows (Closed R) (p >>= λ a. must (mark (codes ")")) (λ _. pure a))
follows_closed R p l = follows_bind R _ p _ l (λ a. follows_mark (codes ")") (Nothing a) (pure a) refl (follows_pure a))

pub closed_parenthesized : {A : Type 0} (R : Relation A) (b : Bounds) (v : Token) (x : Place) (a : A) (ts rest : List Token) → mark (codes "(") v ≡ Some x → Closed R b a ts rest → ReadsParenthesized (R b) a (v ∷ ts) rest
closed_parenthesized R b v x a ts rest h (c, us, d, (w, vs, y, e, i, (j, g))) = rw (j, ← g) (ReadsParenthesized.parenthesized (mark_some (codes "(") v x h).0 (rw e at d) (mark_some (codes ")") w y i).0)

pub follows_parenthesized : {A : Type 0} (R : Relation A) (p : Parser A) → Follows R p → Follows (λ b. ReadsParenthesized (R b)) (parenthesized p)
follows_parenthesized R p l = follows_weaker (λ b a ts rest (v, us, x, e, i, d). rw e (closed_parenthesized R b v x a us rest i d))
    (follows_mark (codes "(") (Closed R) _ refl (follows_closed R p l))

-- ---- lists

pub follows_many : {X A : Type 0} (f : Token → Option X) (R : Token → X → Relation A) (Q : Relation (List A)) (p : X → Parser A) → ((v : Token) (x : X) → f v ≡ Some x → Follows (R v x) (p x))
    → ((b : Bounds) (ts : List Token) → Q b [] ts ts) → ((b : Bounds) (v : Token) (x : X) (e : A) (es : List A) (ts us rest : List Token) → f v ≡ Some x → R v x b e ts us → Q b es us rest → Q b (e ∷ es) (v ∷ ts) rest) → (n : ℕ) → Follows Q (many f p n)
unfolding many
follows_many f R Q p l end more zero = follows_fault Q [] [] (λ s t u o z y. end (bounds s t u) o) (λ o y. y)
follows_many f R Q p l end more (suc n) = follows_weaker (λ b es ts rest k. elim k [
  | inl (v, us, x, i, h, (e, vs, r, (fs, ws, q, (j, g)))) ↦ rw (i, j, ← g) (more b v x e fs us vs ws h r q)
  | inr (j, g) ↦ rw (j, g) (end b rest)
])
    (follows_if f _ _ _ _ (λ v x h. follows_bind (R v x) _ (p x) _ (l v x h) (λ e. follows_bind Q _ (many f p n) _ (follows_many f R Q p l end more n) (λ es. follows_pure (e ∷ es)))) (follows_pure []))

-- { x }, each by the token that comes first
pub follows_each : {X A : Type 0} (f : Token → Option X) (R : Token → X → Relation A) (Q : Relation A) (p : X → Parser A) → ((v : Token) (x : X) → f v ≡ Some x → Follows (R v x) (p x))
    → ((b : Bounds) (v : Token) (x : X) (a : A) (ts rest : List Token) → f v ≡ Some x → R v x b a ts rest → Q b a (v ∷ ts) rest) → (n : ℕ) → Follows (λ b. ReadsMany (Q b)) (many f p n)
follows_each f R Q p l from n = follows_many f R (λ b. ReadsMany (Q b)) p l (λ b ts. ReadsMany.none) (λ b v x e es ts us rest h d q. ReadsMany.another (from b v x e ts us h d) q) n

-- { "," x }
pub data ReadsFurther {A : Type 0} (R : A → List Token → List Token → Type 0) : List A → List Token → List Token → Type 0 where
  no_further : {ts : List Token} → ReadsFurther R [] ts ts
  a_further : {a : A} {others : List A} {comma : Token} {ts us rest : List Token} → IsMark (codes ",") comma → R a ts us → ReadsFurther R others us rest → ReadsFurther R (a ∷ others) (comma ∷ ts) rest

pub list_from : {A : Type 0} (R : A → List Token → List Token → Type 0) {a : A} {others : List A} {ts us rest : List Token} → R a ts us → ReadsFurther R others us rest → ReadsList R (a ∷ others) ts rest
list_from R d ReadsFurther.no_further = ReadsList.last d
list_from R d (ReadsFurther.a_further c e f) = ReadsList.further d c (list_from R e f)

pub follows_further : {A : Type 0} (R : Relation A) (p : Parser A) → Follows R p → (n : ℕ) → Follows (λ b. ReadsFurther (R b)) (many (mark (codes ",")) (λ _. p) n)
follows_further R p l n = follows_many (mark (codes ",")) (λ _ _. R) (λ b. ReadsFurther (R b)) (λ _. p) (λ v x h. l) (λ b ts. ReadsFurther.no_further) (λ b v x e es ts us rest h d f. ReadsFurther.a_further (mark_some (codes ",") v x h).0 d f) n

pub follows_list : {A : Type 0} (R : Relation A) (p : Parser A) → Follows R p → (n : ℕ) → Follows (λ b. ReadsList (R b)) (list p n)
unfolding list
follows_list R p l n = follows_weaker (λ b es ts rest (a, us, d, (others, vs, f, (i, j))). rw i (list_from (R b) d (rw j at f)))
    (follows_bind R _ p _ l (λ a. follows_bind _ _ (many (mark (codes ",")) (λ _. p) n) _ (follows_further R p l n) (λ others. follows_pure (a ∷ others))))

-- { x }, up to a token that ends it
pub follows_before : {A : Type 0} (f : Token → Bool) (R : Relation A) (p : Parser A) → Follows R p → (n : ℕ) → Follows (λ b. ReadsMany (R b)) (before f p n)
unfolding before
follows_before f R p l zero = follows_fault (λ b. ReadsMany (R b)) [] [] (λ s t u o z y. ReadsMany.none) (λ o y. y)
follows_before f R p l (suc n) = follows_ahead (λ b. ReadsMany (R b)) f _ _
    (follows_weaker (λ b es ts rest (j, g). rw (j, g) ReadsMany.none) (follows_pure []))
    (follows_weaker (λ b es ts rest (a, us, d, (others, vs, f, (i, j))). rw i (ReadsMany.another d (rw j at f)))
    (follows_bind R _ p _ l (λ a. follows_bind _ _ (before f p n) _ (follows_before f R p l n) (λ others. follows_pure (a ∷ others)))))

-- ---- groups whose members stand between commas too

-- behind a group with its members so far: each comma brings a new group, by H, or a member to the last one, by M
pub data ReadsGroups {G : Type 0} (H : G → List Token → List Token → Type 0) (M : G → G → List Token → List Token → Type 0) : G → List G → List Token → List Token → Type 0 where
  last_group : {g : G} {ts : List Token} → ReadsGroups H M g (g ∷ []) ts ts
  opened : {g h : G} {gs : List G} {comma : Token} {ts us rest : List Token} → IsMark (codes ",") comma → H h ts us → ReadsGroups H M h gs us rest → ReadsGroups H M g (g ∷ gs) (comma ∷ ts) rest
  grown : {g h : G} {gs : List G} {comma : Token} {ts us rest : List Token} → IsMark (codes ",") comma → M g h ts us → ReadsGroups H M h gs us rest → ReadsGroups H M g gs (comma ∷ ts) rest

-- behind a comma
abbrev pub BehindComma : {G : Type 0} → Relation G → (G → Relation G) → G → Relation (List G)
BehindComma {G} H M g b gs ts rest = ((h : G) × (us : List Token) × (hs : List G) × H b h ts us × ReadsGroups (H b) (λ x. M x b) h hs us rest × (gs ≡ g ∷ hs)) ⊎ Then (M g) (λ h e. ReadsGroups (H e) (λ x. M x e) h) b gs ts rest

behind_comma : {G : Type 0} (H : Relation G) (M : G → Relation G) (g : G) (b : Bounds) (v : Token) (x : Place) (gs : List G) (us rest : List Token) → mark (codes ",") v ≡ Some x → BehindComma H M g b gs us rest → ReadsGroups (H b) (λ h. M h b) g gs (v ∷ us) rest
behind_comma H M g b v x gs us rest h (inl (a, vs, hs, d, f, i)) = rw i (ReadsGroups.opened (mark_some (codes ",") v x h).0 d f)
behind_comma H M g b v x gs us rest h (inr (a, vs, d, f)) = ReadsGroups.grown (mark_some (codes ",") v x h).0 d f

pub follows_groups : {G : Type 0} (opens : Token → Bool) (H : Relation G) (M : G → Relation G) (head : Parser G) (grow : G → Parser G) → Follows H head → ((g : G) → Follows (M g) (grow g)) → (n : ℕ) (g : G) → Follows (λ b. ReadsGroups (H b) (λ h. M h b) g) (groups opens head grow n g)
unfolding groups
follows_groups opens H M head grow l r zero g = follows_fault (λ b. ReadsGroups (H b) (λ h. M h b) g) [] (g ∷ []) (λ s t u o z y. ReadsGroups.last_group) (λ o y. y)
follows_groups opens H M head grow l r (suc n) g = follows_weaker (λ b gs ts rest k. elim k [
  | inl (v, us, x, i, h, f) ↦ rw i (behind_comma H M g b v x gs us rest h f)
  | inr (j, e) ↦ rw (j, e) ReadsGroups.last_group
])
    (follows_if (mark (codes ",")) (λ _ _. BehindComma H M g) (Nothing (g ∷ [])) _ _ (λ v x h. follows_ahead (BehindComma H M g) opens _ _
    (follows_weaker (λ b gs ts rest (h, us, d, (hs, vs, f, (i, j))). inl (h, us, hs, d, rw j at f, i))
    (follows_bind H _ head _ l (λ h. follows_bind _ _ (groups opens head grow n h) _ (follows_groups opens H M head grow l r n h) (λ gs. follows_pure (g ∷ gs)))))
    (follows_weaker (λ b gs ts rest d. inr d) (follows_bind (M g) (λ h b. ReadsGroups (H b) (λ x. M x b) h) (grow g) _ (r g) (λ h. follows_groups opens H M head grow l r n h))))
    (follows_pure (g ∷ [])))

-- a list grows at its end
pub list_grows : {A : Type 0} (R : A → List Token → List Token → Type 0) {es : List A} {a : A} {comma : Token} {ts us rest : List Token} → ReadsList R es ts (comma ∷ us) → IsMark (codes ",") comma → R a us rest → ReadsList R (es ++ a ∷ []) ts rest
list_grows R (ReadsList.last d) c e = ReadsList.further d c (ReadsList.last e)
list_grows R (ReadsList.further d b f) c e = ReadsList.further d b (list_grows R f c e)

-- groups are a list: P is a group with the members so far
pub list_of_groups : {G : Type 0} (P H : G → List Token → List Token → Type 0) (M : G → G → List Token → List Token → Type 0) → ((g : G) (ts us : List Token) → H g ts us → P g ts us)
    → ((g h : G) (comma : Token) (ts us vs : List Token) → P g ts (comma ∷ us) → IsMark (codes ",") comma → M g h us vs → P h ts vs) → {g : G} {gs : List G} {ts us rest : List Token} → P g ts us → ReadsGroups H M g gs us rest → ReadsList P gs ts rest
list_of_groups P H M start grow d ReadsGroups.last_group = ReadsList.last d
list_of_groups P H M start grow d (ReadsGroups.opened c e f) = ReadsList.further d c (list_of_groups P H M start grow (start _ _ _ e) f)
list_of_groups P H M start grow d (ReadsGroups.grown c e f) = list_of_groups P H M start grow (grow _ _ _ _ _ _ d c e) f

-- ---- an `else`, which belongs to the nearest `if`: where there is none, what follows is no `else`

-- behind an `else` R, or a and no `else`
abbrev pub IfElse : {A : Type 0} → Relation A → A → Relation A
IfElse R a b y ts rest = After (keyword (codes "else")) (λ _ _. R) b y ts rest ⊎ ((y ≡ a) × (ts ≡ rest) × Free (next rest))

-- another token takes the place of what is no `else`
none_fits : (ts other : List Token) → next_by (keyword (codes "else")) ts ≡ None → Fits ts other → Free (next other)
none_fits ts other k (inl n) = free_along (next ts) (next other) n (not_next ts k)
none_fits ts other k (inr f) = f

module _ {A : Type 0} (R : Relation A) (p : Parser A) (l : Follows R p) (a : A) where
  plainly : Follows (Either (keyword (codes "else")) (λ _ _. R) (Nothing a)) (if_next (keyword (codes "else")) (λ _. p) (pure a))
  plainly = follows_if (keyword (codes "else")) (λ _ _. R) (Nothing a) (λ _. p) (pure a) (λ v x h. l) (follows_pure a)

  else_took : (ts : List Token) (b : A) (rest : List Token) (o : Option (Place × List Token)) → next_by (keyword (codes "else")) ts ≡ o → next_or o (λ _. p) (Ok (a, ts)) ≡ Ok (b, rest) → Took (IfElse R a) (if_next (keyword (codes "else")) (λ _. p) (pure a)) ts b rest
  else_took ts b rest (Some y) k e = let v = next_by_some (keyword (codes "else")) ts y.1 y.0 k in let g = l.took y.1 b rest e in record {
    front = v.0 ∷ g.front;
    split = v.1 ∙ ap (λ z. v.0 ∷ z) g.split;
    reads = λ s t u o w. inl (v.0, g.front ++ o, y.0, refl, v.2, g.reads s t u o w);
    same = λ o n. rw (next_by_here (keyword (codes "else")) v.0 (g.front ++ o) y.0 v.2) (g.same o n);
  }
  else_took ts b rest None k e = let w : a ≡ b = ap (λ x. x.0) (ok_parts e) in let v : ts ≡ rest = ap (λ x. x.1) (ok_parts e) in record {
    front = [];
    split = v;
    reads = λ s t u o y. inr (sym w, refl, none_fits ts o k (rw v y));
    same = λ o n. rw (next_by_next (keyword (codes "else")) ts o (ap next v ∙ n) k) (ap (λ z. Ok (z, o)) w);
  }

  pub follows_else : Follows (IfElse R a) (if_next (keyword (codes "else")) (λ _. p) (pure a))
  follows_else = record {
    took = λ ts b rest e. else_took ts b rest (next_by (keyword (codes "else")) ts) refl e;
    stuck = λ ts cause rest e. let g = plainly.stuck ts cause rest e in record {
      front = g.front;
      split = g.split;
      more = g.more;
      found = g.found;
      fits = g.fits;
      same = g.same;
      begins = λ s t u o z y. elim (g.begins s t u o z y) [ inl w ↦ inl w | inr (i, j) ↦ inr (i, j, y) ];
      beyond = λ i. let b = g.beyond i in record { token = b.token; after = b.after; here = b.here; more = b.more; found = b.found; begins = λ s t u h o z y. elim (b.begins s t u h o z y) [ inl w ↦ inl w | inr (i, j) ↦ inr (i, j, y) ] };
    };
    word = [];
    value = a;
    some = λ s t u o z y. inr (refl, refl, y);
    word_free = λ o y. y;
  }
