-- What the grammar derives within bounds is read, or the reading stops where it passes a limit that the bounds don't have,
-- or at one of the last tokens, which the bounds don't count.
use Rattle.std.proofs.Common.{◌≡◌, ℕ, zero, suc, ◌+◌, ◌<◌, ◌≤◌, ◌⊎◌, inl, inr, Bool, true, false, length, drop, List, [], ◌∷◌, Ok, Err, Option, Some, None, refl, arith}
use Rattle.std.specs.Prelude.{codes}
use Rattle.std.specs.Str.{bytes_eq}
use Rattle.std.proofs.Math.Dec.{ltb}
use Rattle.std.proofs.lemmas.Bool.{ltb-true, ltb-false}
use Rattle.std.proofs.lemmas.List.{length-drop}
use Rattle.vl_tree.specs.declared.token.Token.{Token}
use Rattle.vl_tree.specs.declared.tree.Identifier.{Identifier}
use Rattle.vl_tree.specs.MarksOfGrammar.{IsMark, IsKeyword}
use Rattle.vl_tree.specs.Reading as plain
use Rattle.vl_tree.specs.Reading.{next_by, is_next, mark, keyword}
use Rattle.vl_tree.proofs.Follows.{next_by_here}
use Rattle.vl_tree.proofs.MarkLemmas.{mark_here, mark_other}
use Rattle.vl_tree.proofs.Complete.{none_here}
use Rattle.vl_tree.specs.declared.source_fault.Cause.{Cause}
use Rattle.vl_tree.specs.declared.source_fault.Cause.TheVariants as c
use Rattle.vl_tree.specs.Bounds.{MayReach, most_tokens}
use Rattle.vl_tree.specs.Lists.{ReadsOptional, ReadsMany, ReadsList, ReadsParenthesized, ReadsWord, ReadsIdentifier}
use Rattle.vl_tree.specs.Parsers.{Outcome, Parser, and_then, next_or, identifier_token, identifier, word, optional, parenthesized, many, list, before, groups, limited}
use Rattle.vl_tree.proofs.Words.{keyword_here, keyword_other, name_here}
use Rattle.vl_tree.proofs.FollowsOfSource.{bounds}
use Rattle.vl_tree.proofs.FollowsLists.{ReadsFurther, ReadsGroups}
use Rattle.vl_tree.proofs.Limited.{limited_ok, limited_past}
pub use Rattle.vl_tree.proofs.Complete.{mark_next}
pub use Rattle.vl_tree.proofs.Complete.{mark_apart}

-- ---- what comes first

pub keyword_next : (m : List ℕ) (v : Token) (us : List Token) → IsKeyword m v → bytes_eq m m ≡ true → next_by (keyword m) (v ∷ us) ≡ Some (v.place, us)
keyword_next m v us h e = next_by_here (keyword m) v us v.place (keyword_here m m v h e)

pub keyword_apart : (m n : List ℕ) (v : Token) (us : List Token) → IsKeyword n v → bytes_eq n m ≡ false → next_by (keyword m) (v ∷ us) ≡ None
keyword_apart m n v us h e = none_here (keyword m) v us (keyword_other m n v h e)

-- ---- what is read, or why it isn't

-- a limit that the bounds don't have is passed, or one is passed at a token that they don't count
abbrev pub ExcusedAt : Bool → Bool → ℕ → Cause → List Token → Type 0
ExcusedAt s t u c.Syntax us = ⊥
ExcusedAt s t u c.Statements us = (s ≡ false) ⊎ ((0 < length us) × (length us ≤ u))
ExcusedAt s t u c.Tokens us = (t ≡ false) ⊎ ((0 < length us) × (length us ≤ u))

abbrev pub Excused : {A : Type 0} → Bool → Bool → ℕ → Outcome A → Type 0
Excused s t u (Ok x) = ⊥
Excused s t u (Err e) = ExcusedAt s t u e.0 e.1

pub data Reads {A : Type 0} (s t : Bool) (u : ℕ) (a : A) (rest : List Token) (o : Outcome A) : Type 0 where
  read : o ≡ Ok (a, rest) → Reads s t u a rest o
  excused : Excused s t u o → Reads s t u a rest o

pub read_now : {A : Type 0} {s t : Bool} {u : ℕ} {a : A} {rest : List Token} → Reads s t u a rest (Ok (a, rest))
read_now = Reads.read refl

-- ---- one after another

excused_on : {A B : Type 0} (s t : Bool) (u : ℕ) (b : B) (rest : List Token) (o : Outcome A) (f : A → Parser B) → Excused s t u o → Reads s t u b rest (and_then o f)
excused_on s t u b rest (Ok x) f h = absurd h
excused_on s t u b rest (Err e) f h = Reads.excused h

pub reads_bind : {A B : Type 0} {s t : Bool} {u : ℕ} {a : A} {b : B} {us rest : List Token} {o : Outcome A} (f : A → Parser B) → Reads s t u a us o → Reads s t u b rest (f a us) → Reads s t u b rest (and_then o f)
reads_bind f (Reads.read e) g = rw e g
reads_bind {A} {B} {s} {t} {u} {a} {b} {us} {rest} {o} f (Reads.excused h) g = excused_on s t u b rest o f h

-- at the front stands a token that f takes, and behind it p reads a
abbrev pub Opens : {X A : Type 0} → (Token → Option X) → (X → Parser A) → Bool → Bool → ℕ → A → List Token → List Token → Type 0
Opens {X} f p s t u a ts rest = (v : Token) × (us : List Token) × (x : X) × (ts ≡ v ∷ us) × (f v ≡ Some x) × Reads s t u a rest (p x us)

pub reads_next : {X A : Type 0} {s t : Bool} {u : ℕ} {a : A} {rest : List Token} (f : Token → Option X) (p : X → Parser A) (q : Outcome A) (v : Token) (us : List Token) (x : X) → f v ≡ Some x → Reads s t u a rest (p x us) → Reads s t u a rest (next_or (next_by f (v ∷ us)) p q)
reads_next f p q v us x h g = rw (next_by_here f v us x h) g

pub reads_other : {X A : Type 0} {s t : Bool} {u : ℕ} {a : A} {rest : List Token} (f : Token → Option X) (p : X → Parser A) (q : Outcome A) (ts : List Token) → next_by f ts ≡ None → Reads s t u a rest q → Reads s t u a rest (next_or (next_by f ts) p q)
reads_other f p q ts h g = rw h g

pub reads_opens : {X A : Type 0} {s t : Bool} {u : ℕ} {a : A} {ts rest : List Token} (f : Token → Option X) (p : X → Parser A) (q : Outcome A) → Opens f p s t u a ts rest → Reads s t u a rest (next_or (next_by f ts) p q)
reads_opens f p q (v, us, x, e, h, g) = rw (e, next_by_here f v us x h) g

-- ---- names and words

pub identifier_reads : {n : Identifier} {ts rest : List Token} → ReadsIdentifier n ts rest → identifier ts ≡ Ok (n, rest)
unfolding identifier
identifier_reads (ReadsIdentifier.identifier {n} {t} {rest} h) = rw (next_by_here identifier_token t rest _ (name_here n t h)) refl

pub word_reads : {w : List ℕ} {a : Bool} {ts rest : List Token} → ReadsWord w a ts rest → bytes_eq w w ≡ true → next_by (keyword w) rest ≡ None → word w ts ≡ Ok (a, rest)
unfolding word
word_reads ReadsWord.no_word e h = rw h refl
word_reads {w} (ReadsWord.a_word {t} {rest} i) e h = rw (keyword_next w t rest i e) refl

-- ---- parts that may be missing, and parentheses

pub reads_optional : {X A : Type 0} {s t : Bool} {u : ℕ} (f : Token → Option X) (p : X → Parser A) (R : A → List Token → List Token → Type 0) {a : Option A} {ts rest : List Token} → ReadsOptional R a ts rest → next_by f rest ≡ None
    → ((e : A) → R e ts rest → Opens f p s t u e ts rest) → Reads s t u a rest (optional f p ts)
reads_optional f p R ReadsOptional.nothing h each = rw h read_now
reads_optional f p R (ReadsOptional.something {a} d) h each = reads_opens f _ _ (let g = each a d in (g.0, g.1, g.2, g.3, g.4, reads_bind _ g.5 read_now))

pub reads_parenthesized : {A : Type 0} {s t : Bool} {u : ℕ} (p : Parser A) (R : A → List Token → List Token → Type 0) {a : A} {ts rest : List Token} → ReadsParenthesized R a ts rest
    → ((us : List Token) (closing : Token) → length us < length ts → R a us (closing ∷ rest) → IsMark (codes ")") closing → Reads s t u a (closing ∷ rest) (p us)) → Reads s t u a rest (parenthesized p ts)
reads_parenthesized p R (ReadsParenthesized.parenthesized {a} {opening} {closing} {ts} {rest} h d i) inside =
    reads_next (mark (codes "(")) _ _ opening ts opening.place (mark_here (codes "(") (codes "(") opening h refl)
    (reads_bind _ (inside ts closing (omega arith) d i) (rw (mark_next (codes ")") closing rest i refl) read_now))

-- ---- lists: each part starts no later than this, and W holds of what follows it

module _ {A : Type 0} {s t : Bool} {u : ℕ} (p : Parser A) (R : A → List Token → List Token → Type 0) (W : List Token → Type 0) (comma : (v : Token) (us : List Token) → IsMark (codes ",") v → W (v ∷ us)) (most : ℕ)
    (each : (a : A) (ts rest : List Token) → length ts ≤ most → R a ts rest → W rest → Reads s t u a rest (p ts)) (no_longer : (a : A) (ts rest : List Token) → R a ts rest → length rest ≤ length ts) where
  behind_further : {es : List A} {ts rest : List Token} → ReadsFurther R es ts rest → W rest → W ts
  behind_further ReadsFurther.no_further w = w
  behind_further (ReadsFurther.a_further h d f) w = comma _ _ h

  pub reads_further : {es : List A} {ts rest : List Token} → ReadsFurther R es ts rest → (n : ℕ) → length ts ≤ most → length ts < n → W rest → next_by (mark (codes ",")) rest ≡ None → Reads s t u es rest (many (mark (codes ",")) (λ _. p) n ts)
  unfolding many
  reads_further d zero m h w e = absurd (omega arith)
  reads_further ReadsFurther.no_further (suc n) m h w e = rw e read_now
  reads_further (ReadsFurther.a_further {a} {others} {comma = v} {ts} {us} {rest} i d f) (suc n) m h w e =
      let l : length us ≤ length ts = no_longer a ts us d in
      reads_next (mark (codes ",")) _ _ v ts v.place (mark_here (codes ",") (codes ",") v i refl)
      (reads_bind _ (each a ts us (omega arith) d (behind_further f w)) (reads_bind _ (reads_further {es = others} {ts = us} f n (omega (arith, l)) (omega (arith, l)) w e) read_now))

  further_of : {es : List A} {ts rest : List Token} → ReadsList R es ts rest → (a : A) × (others : List A) × (us : List Token) × (es ≡ a ∷ others) × R a ts us × ReadsFurther R others us rest
  further_of (ReadsList.last {a} {ts} {rest} d) = (a, [], rest, refl, d, ReadsFurther.no_further)
  further_of (ReadsList.further {a} {others} {comma = v} {ts} {us} {rest} d h f) = let g = further_of f in (a, others, v ∷ us, refl, d, rw g.3 (ReadsFurther.a_further h g.4 g.5))

  pub reads_list : {es : List A} {ts rest : List Token} → ReadsList R es ts rest → (n : ℕ) → length ts ≤ most → length ts < n → W rest → next_by (mark (codes ",")) rest ≡ None → Reads s t u es rest (list p n ts)
  unfolding list
  reads_list {es} {ts} {rest} d n m h w e =
      let g = further_of d in
      let l : length g.2 ≤ length ts = no_longer g.0 ts g.2 g.4 in
      rw g.3 (reads_bind _ (each g.0 ts g.2 m g.4 (behind_further g.5 w)) (reads_bind _ (reads_further g.5 n (omega (arith, l)) (omega (arith, l)) w e) read_now))

-- { x }, each by the token that comes first
module _ {X A : Type 0} {s t : Bool} {u : ℕ} (f : Token → Option X) (p : X → Parser A) (R : A → List Token → List Token → Type 0) (most : ℕ)
    (each : (a : A) (ts rest : List Token) → length ts ≤ most → R a ts rest → Opens f p s t u a ts rest) (shorter : (a : A) (ts rest : List Token) → R a ts rest → length rest < length ts) where
  pub reads_each : {es : List A} {ts rest : List Token} → ReadsMany R es ts rest → (n : ℕ) → length ts ≤ most → length ts < n → next_by f rest ≡ None → Reads s t u es rest (many f p n ts)
  unfolding many
  reads_each d zero m h e = absurd (omega arith)
  reads_each ReadsMany.none (suc n) m h e = rw e read_now
  reads_each (ReadsMany.another {a} {others} {ts} {us} {rest} d q) (suc n) m h e =
      let l : length us < length ts = shorter a ts us d in
      let g = each a ts us m d in
      reads_opens f _ _ (g.0, g.1, g.2, g.3, g.4, reads_bind _ g.5 (reads_bind _ (reads_each {es = others} {ts = us} q n (omega (arith, l)) (omega (arith, l)) e) read_now))

-- { x }, up to a token that ends it
module _ {A : Type 0} {s t : Bool} {u : ℕ} (f : Token → Bool) (p : Parser A) (R : A → List Token → List Token → Type 0) (most : ℕ)
    (each : (a : A) (ts rest : List Token) → length ts ≤ most → R a ts rest → Reads s t u a rest (p ts)) (starts : (a : A) (ts rest : List Token) → R a ts rest → is_next f ts ≡ false) (shorter : (a : A) (ts rest : List Token) → R a ts rest → length rest < length ts) where
  pub reads_before : {es : List A} {ts rest : List Token} → ReadsMany R es ts rest → (n : ℕ) → length ts ≤ most → length ts < n → is_next f rest ≡ true → Reads s t u es rest (before f p n ts)
  unfolding before
  reads_before d zero m h e = absurd (omega arith)
  reads_before ReadsMany.none (suc n) m h e = rw e read_now
  reads_before (ReadsMany.another {a} {others} {ts} {us} {rest} d q) (suc n) m h e =
      let l : length us < length ts = shorter a ts us d in
      rw (starts a ts us d) (reads_bind _ (each a ts us m d) (reads_bind _ (reads_before {es = others} {ts = us} q n (omega (arith, l)) (omega (arith, l)) e) read_now))

-- ---- groups whose members stand between commas too

-- further members of a group
pub data ReadsGrown {G : Type 0} (M : G → G → List Token → List Token → Type 0) : G → G → List Token → List Token → Type 0 where
  all_grown : {g : G} {ts : List Token} → ReadsGrown M g g ts ts
  one_more : {g h k : G} {comma : Token} {ts us rest : List Token} → IsMark (codes ",") comma → M g h ts us → ReadsGrown M h k us rest → ReadsGrown M g k (comma ∷ ts) rest

groups_grown : {G : Type 0} (H : G → List Token → List Token → Type 0) (M : G → G → List Token → List Token → Type 0) {g h : G} {gs : List G} {ts us rest : List Token} → ReadsGrown M g h ts us → ReadsGroups H M h gs us rest → ReadsGroups H M g gs ts rest
groups_grown H M ReadsGrown.all_grown q = q
groups_grown H M (ReadsGrown.one_more c d f) q = ReadsGroups.grown c d (groups_grown H M f q)

-- a list of groups, from its first group's first member on
pub groups_of_list : {G : Type 0} (P H : G → List Token → List Token → Type 0) (M : G → G → List Token → List Token → Type 0) → ((g : G) (ts rest : List Token) → P g ts rest → (h : G) × (us : List Token) × H h ts us × ReadsGrown M h g us rest)
    → {gs : List G} {ts rest : List Token} → ReadsList P gs ts rest → (h : G) × (us : List Token) × H h ts us × ReadsGroups H M h gs us rest
groups_of_list P H M parts (ReadsList.last {a} {ts} {rest} d) = let k = parts a ts rest d in (k.0, k.1, k.2, groups_grown H M k.3 ReadsGroups.last_group)
groups_of_list P H M parts (ReadsList.further {a} {others} {comma} {ts} {us} {rest} d c f) =
    let k = parts a ts (comma ∷ us) d in let j = groups_of_list P H M parts f in (k.0, k.1, k.2, groups_grown H M k.3 (ReadsGroups.opened c j.2 j.3))

module _ {G : Type 0} {s t : Bool} {u : ℕ} (opens : Token → Bool) (head : Parser G) (grow : G → Parser G) (H : G → List Token → List Token → Type 0) (M : G → G → List Token → List Token → Type 0)
    (W : List Token → Type 0) (comma : (v : Token) (us : List Token) → IsMark (codes ",") v → W (v ∷ us)) (most : ℕ)
    (heads : (h : G) (ts rest : List Token) → length ts ≤ most → H h ts rest → W rest → (is_next opens ts ≡ true) × Reads s t u h rest (head ts)) (grows : (g h : G) (ts rest : List Token) → length ts ≤ most → M g h ts rest → W rest → (is_next opens ts ≡ false) × Reads s t u h rest (grow g ts))
    (shorter_head : (h : G) (ts rest : List Token) → H h ts rest → length rest ≤ length ts) (shorter_grow : (g h : G) (ts rest : List Token) → M g h ts rest → length rest ≤ length ts) where
  pub behind_groups : {g : G} {gs : List G} {ts rest : List Token} → ReadsGroups H M g gs ts rest → W rest → W ts
  behind_groups ReadsGroups.last_group w = w
  behind_groups (ReadsGroups.opened c d f) w = comma _ _ c
  behind_groups (ReadsGroups.grown c d f) w = comma _ _ c

  pub reads_groups : {g : G} {gs : List G} {ts rest : List Token} → ReadsGroups H M g gs ts rest → (n : ℕ) → length ts ≤ most → length ts < n → W rest → next_by (mark (codes ",")) rest ≡ None → Reads s t u gs rest (groups opens head grow n g ts)
  unfolding groups
  reads_groups d zero m l w e = absurd (omega arith)
  reads_groups ReadsGroups.last_group (suc n) m l w e = rw e read_now
  reads_groups (ReadsGroups.opened {g} {h} {gs} {comma = v} {ts} {us} {rest} c d f) (suc n) m l w e =
      let k = heads h ts us (omega arith) d (behind_groups f w) in
      let less : length us ≤ length ts = shorter_head h ts us d in
      reads_next (mark (codes ",")) _ _ v ts v.place (mark_here (codes ",") (codes ",") v c refl)
      (rw k.0 (reads_bind _ k.1 (reads_bind _ (reads_groups {g = h} {gs = gs} {ts = us} f n (omega (arith, less)) (omega (arith, less)) w e) read_now)))
  reads_groups (ReadsGroups.grown {g} {h} {gs} {comma = v} {ts} {us} {rest} c d f) (suc n) m l w e =
      let k = grows g h ts us (omega arith) d (behind_groups f w) in
      let less : length us ≤ length ts = shorter_grow g h ts us d in
      reads_next (mark (codes ",")) _ _ v ts v.place (mark_here (codes ",") (codes ",") v c refl)
      (rw k.0 (reads_bind _ k.1 (reads_groups {g = h} {gs = gs} {ts = us} f n (omega (arith, less)) (omega (arith, less)) w e)))

-- ---- what is read within limit 4

past_excused : {A : Type 0} (s t : Bool) (u : ℕ) (a : A) (ts rest : List Token) → MayReach (bounds s t u) ts rest → length rest + most_tokens < length ts → Reads {A = A} s t u a rest (Err (c.Tokens, drop most_tokens ts))
past_excused s true u a ts rest (inl h) l = absurd (omega (arith, h, l))
past_excused s true u a ts rest (inr h) l = Reads.excused (inr (omega (arith, l, length-drop most_tokens ts), omega (arith, h, length-drop most_tokens ts)))
past_excused s false u a ts rest h l = Reads.excused (inl refl)

pub reads_limited : {A : Type 0} {s t : Bool} {u : ℕ} (p : plain.Parser A) {a : A} {ts rest : List Token} → p ts ≡ Ok (a, rest) → MayReach (bounds s t u) ts rest → Reads s t u a rest (limited most_tokens p ts)
reads_limited {A} {s} {t} {u} p {a} {ts} {rest} e w = go (ltb (length rest + most_tokens) (length ts)) refl
  where
    go : (b : Bool) → ltb (length rest + most_tokens) (length ts) ≡ b → Reads s t u a rest (limited most_tokens p ts)
    go true h = let l = ltb-true (length rest + most_tokens) (length ts) h in rw (limited_past most_tokens p ts (rw e l)) (past_excused s t u a ts rest w l)
    go false h = Reads.read (limited_ok most_tokens p ts a rest e (ltb-false (length rest + most_tokens) (length ts) h))
