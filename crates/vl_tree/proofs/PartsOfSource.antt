-- Parts of declarations: what comes first, what comes behind, and how many tokens are left.
use Rattle.std.proofs.Common.{◌≡◌, ℕ, ◌+◌, ◌<◌, ◌≤◌, Bool, true, false, length, List, [], ◌∷◌, ◌++◌, Option, Some, None, refl, subst, arith, append_assoc}
use Rattle.std.specs.Prelude.{codes}
use Rattle.std.specs.Str.{bytes_eq}
use Rattle.vl_tree.specs.declared.token.Token.{Token}
use Rattle.vl_tree.specs.declared.token.TokenKind.TheVariants as k
use Rattle.vl_tree.specs.declared.tree.Expression.{Expression}
use Rattle.vl_tree.specs.declared.tree.Identifier.{Identifier}
use Rattle.vl_tree.specs.MarksOfGrammar.{IsMark, IsKeyword, binary_operators, found_in}
use Rattle.vl_tree.specs.Reading.{next_by, is_next, mark, keyword}
use Rattle.vl_tree.specs.Expressions.{expr}
use Rattle.vl_tree.proofs.Follows.{next_by_here}
use Rattle.vl_tree.proofs.MarkLemmas.{mark_other}
use Rattle.vl_tree.proofs.Complete.{none_here, Ends, ends_before, reads_expression}
use Rattle.vl_tree.specs.Lists.{ReadsOptional, ReadsMany, ReadsList, ReadsParenthesized, ReadsWord, ReadsIdentifier}
use Rattle.vl_tree.specs.Statements.{ReadsWhole}
use Rattle.vl_tree.specs.Parsers.{is_some}
use Rattle.vl_tree.specs.Parsing.{whole}
use Rattle.vl_tree.proofs.Words.{no_keyword, no_mark}
use Rattle.vl_tree.proofs.FollowsOfSource.{bounds}
use Rattle.vl_tree.proofs.Completing.{Reads, reads_limited, keyword_apart, ReadsGrown}

-- ---- how many tokens are left

pub shorter_identifier : {i : Identifier} {ts rest : List Token} → ReadsIdentifier i ts rest → length rest < length ts
shorter_identifier (ReadsIdentifier.identifier h) = omega arith

pub no_longer_word : {w : List ℕ} {a : Bool} {ts rest : List Token} → ReadsWord w a ts rest → length rest ≤ length ts
no_longer_word ReadsWord.no_word = omega arith
no_longer_word (ReadsWord.a_word h) = omega arith

module _ {A : Type 0} (R : A → List Token → List Token → Type 0) where
  pub no_longer_optional : ((a : A) (ts rest : List Token) → R a ts rest → length rest < length ts) → {a : Option A} {ts rest : List Token} → ReadsOptional R a ts rest → length rest ≤ length ts
  no_longer_optional l ReadsOptional.nothing = omega arith
  no_longer_optional l (ReadsOptional.something {a} {ts} {rest} d) = let h = l a ts rest d in omega (arith, h)

  pub no_longer_many : ((a : A) (ts rest : List Token) → R a ts rest → length rest < length ts) → {es : List A} {ts rest : List Token} → ReadsMany R es ts rest → length rest ≤ length ts
  no_longer_many l ReadsMany.none = omega arith
  no_longer_many l (ReadsMany.another {a} {others} {ts} {us} {rest} d f) = let h = l a ts us d in let g = no_longer_many l f in omega (arith, h, g)

  pub shorter_list : ((a : A) (ts rest : List Token) → R a ts rest → length rest < length ts) → {es : List A} {ts rest : List Token} → ReadsList R es ts rest → length rest < length ts
  shorter_list l (ReadsList.last {a} {ts} {rest} d) = l a ts rest d
  shorter_list l (ReadsList.further {a} {others} {comma} {ts} {us} {rest} d c f) = let h = l a ts (comma ∷ us) d in let g = shorter_list l f in omega (arith, h, g)

  pub no_longer_list : ((a : A) (ts rest : List Token) → R a ts rest → length rest ≤ length ts) → {es : List A} {ts rest : List Token} → ReadsList R es ts rest → length rest ≤ length ts
  no_longer_list l (ReadsList.last {a} {ts} {rest} d) = l a ts rest d
  no_longer_list l (ReadsList.further {a} {others} {comma} {ts} {us} {rest} d c f) = let h = l a ts (comma ∷ us) d in let g = no_longer_list l f in omega (arith, h, g)

  pub shorter_parenthesized : ((a : A) (ts rest : List Token) → R a ts rest → length rest ≤ length ts) → {a : A} {ts rest : List Token} → ReadsParenthesized R a ts rest → length rest < length ts
  shorter_parenthesized l (ReadsParenthesized.parenthesized {a} {opening} {closing} {ts} {rest} h d i) = let g = l a ts (closing ∷ rest) d in omega (arith, g)

-- ---- what comes first

-- a name comes first
abbrev pub Named : List Token → Type 0
Named ts = (v : Token) × (us : List Token) × (name : List ℕ) × (ts ≡ v ∷ us) × (v.kind ≡ k.Name name)

pub named_identifier : {i : Identifier} {ts rest : List Token} → ReadsIdentifier i ts rest → Named ts
named_identifier (ReadsIdentifier.identifier {n} {t} {rest} h) = (t, rest, n, refl, h)

pub named_list : {A : Type 0} (R : A → List Token → List Token → Type 0) → ((a : A) (ts rest : List Token) → R a ts rest → Named ts) → {es : List A} {ts rest : List Token} → ReadsList R es ts rest → Named ts
named_list R l (ReadsList.last {a} {ts} {rest} d) = l a ts rest d
named_list R l (ReadsList.further {a} {others} {comma} {ts} {us} {rest} d c f) = l a ts (comma ∷ us) d

pub named_no_word : (w : List ℕ) {ts : List Token} → Named ts → next_by (keyword w) ts ≡ None
named_no_word w (v, us, name, e, h) = rw e (none_here (keyword w) v us (no_keyword w v (k.Name name) h refl))

pub named_no_mark : (m : List ℕ) {ts : List Token} → Named ts → next_by (mark m) ts ≡ None
named_no_mark m (v, us, name, e, h) = rw e (none_here (mark m) v us (no_mark m v (k.Name name) h refl))

-- another word than w, or what comes behind it
pub word_no_word : (w x : List ℕ) {a : Bool} {ts us : List Token} → ReadsWord x a ts us → bytes_eq x w ≡ false → next_by (keyword w) us ≡ None → next_by (keyword w) ts ≡ None
word_no_word w x ReadsWord.no_word e h = h
word_no_word w x (ReadsWord.a_word {t} {rest} i) e h = keyword_apart w x t rest i e

-- a mark is no word
pub mark_no_word : (w m : List ℕ) (v : Token) (us : List Token) → IsMark m v → next_by (keyword w) (v ∷ us) ≡ None
mark_no_word w m v us h = none_here (keyword w) v us (no_keyword w v (k.Mark m) h refl)

-- a word is no mark
pub word_no_mark : (m w : List ℕ) (v : Token) (us : List Token) → IsKeyword w v → next_by (mark m) (v ∷ us) ≡ None
word_no_mark m w v us h = none_here (mark m) v us (no_mark m v (k.Keyword w) h refl)

-- no such token is ahead
pub not_ahead : {X : Type 0} (f : Token → Option X) (ts : List Token) → next_by f ts ≡ None → is_next (λ v. is_some (f v)) ts ≡ false
not_ahead f [] h = refl
not_ahead {X} f (v ∷ us) h = go (f v) refl
  where
    go : (o : Option X) → f v ≡ o → is_some (f v) ≡ false
    go None e = rw e refl
    go (Some x) e = let w = next_by_here f v us x e in let z : ⊥ = cc (h, w) in absurd z

-- such a token is ahead
pub ahead : {X : Type 0} (f : Token → Option X) (v : Token) (x : X) → f v ≡ Some x → is_some (f v) ≡ true
ahead f v x h = rw h refl

-- ---- what comes behind

-- no token comes with which an expression, a range or a value could go on
pub record Closes (rest : List Token) : Type 0 where
  pub ends : Ends rest
  pub equal : next_by (mark (codes "=")) rest ≡ None

pub closes_mark : (m : List ℕ) (v : Token) (us : List Token) → IsMark m v → bytes_eq m (codes "[") ≡ false → bytes_eq m (codes "(") ≡ false → found_in binary_operators m ≡ None → bytes_eq m (codes "?") ≡ false → bytes_eq m (codes "=") ≡ false → Closes (v ∷ us)
closes_mark m v us h a b c d e = record { ends = ends_before m v us h a b c d; equal = none_here _ v us (mark_other (codes "=") m v h e) }

pub closes_comma : (v : Token) (us : List Token) → IsMark (codes ",") v → Closes (v ∷ us)
closes_comma v us h = closes_mark (codes ",") v us h refl refl refl refl refl

pub closes_semicolon : (v : Token) (us : List Token) → IsMark (codes ";") v → Closes (v ∷ us)
closes_semicolon v us h = closes_mark (codes ";") v us h refl refl refl refl refl

pub closes_parenthesis : (v : Token) (us : List Token) → IsMark (codes ")") v → Closes (v ∷ us)
closes_parenthesis v us h = closes_mark (codes ")") v us h refl refl refl refl refl

-- ---- expressions

pub reads_whole : (n : ℕ) {s t : Bool} {u : ℕ} {a : Expression} {ts rest : List Token} → length ts + 1 < n → ReadsWhole (bounds s t u) a ts rest → Ends rest → Reads s t u a rest (whole n ts)
reads_whole n h d w = reads_limited (expr n) (reads_expression d.reads n h w) d.within

-- ---- groups

module _ {A G : Type 0} (R : A → List Token → List Token → Type 0) (M : G → G → List Token → List Token → Type 0) (make : List A → G) (each : (es : List A) (a : A) (ts rest : List Token) → R a ts rest → M (make es) (make (es ++ a ∷ [])) ts rest) where
  grown_further : (front : List A) {es : List A} {ts rest : List Token} → ReadsList R es ts rest → (comma : Token) → IsMark (codes ",") comma → ReadsGrown M (make front) (make (front ++ es)) (comma ∷ ts) rest
  grown_further front (ReadsList.last {a} {ts} {rest} d) v c = ReadsGrown.one_more c (each front a ts rest d) ReadsGrown.all_grown
  grown_further front (ReadsList.further {a} {others} {comma} {ts} {us} {rest} d i f) v c =
      let g = grown_further (front ++ a ∷ []) f comma i in
      ReadsGrown.one_more c (each front a ts (comma ∷ us) d) (subst (λ z. ReadsGrown M (make (front ++ a ∷ [])) (make z) (comma ∷ us) rest) (append_assoc front (a ∷ []) others) g)

  -- a list is its first part, which grows
  pub grown_of_list : {es : List A} {ts rest : List Token} → ReadsList R es ts rest → (a : A) × (us : List Token) × R a ts us × ReadsGrown M (make (a ∷ [])) (make es) us rest
  grown_of_list (ReadsList.last {a} {ts} {rest} d) = (a, rest, d, ReadsGrown.all_grown)
  grown_of_list (ReadsList.further {a} {others} {comma} {ts} {us} {rest} d c f) = (a, comma ∷ us, d, grown_further (a ∷ []) f comma c)
