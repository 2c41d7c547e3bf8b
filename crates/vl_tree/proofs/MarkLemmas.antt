-- Which token is which mark.
use Rattle.std.proofs.Common.{◌≡◌, ℕ, Bool, true, false, List, [], ◌∷◌, Option, Some, None, refl, sym, ap, ◌∙◌, cond}
use Rattle.std.specs.Str.{bytes_eq}
use Rattle.std.proofs.lemmas.Slice.Eq.{bytes_eq-Decides}
use Rattle.vl_base.specs.declared.place.Place.{Place}
use Rattle.vl_tree.specs.declared.token.Token.{Token}
use Rattle.vl_tree.specs.declared.token.TokenKind.{TokenKind}
use Rattle.vl_tree.specs.declared.token.TokenKind.TheVariants as k
use Rattle.vl_tree.specs.declared.tree.UnaryOperator.{UnaryOperator}
use Rattle.vl_tree.specs.MarksOfGrammar.{IsMark, found_in, mark_in, unary_operators, unary_operator, unary_at}
use Rattle.vl_tree.specs.Reading.{mark, mark_by, place_if}
use Rattle.vl_tree.proofs.Words.{place_some}

-- ---- marks

module _ (m n : List ℕ) (u : Token) where
  pub mark_here : IsMark n u → bytes_eq n m ≡ true → mark m u ≡ Some u.place
  unfolding mark
  mark_here h e = ap (mark_by m u.place) h ∙ ap (λ b. place_if b u.place) e

  pub mark_other : IsMark n u → bytes_eq n m ≡ false → mark m u ≡ None
  unfolding mark
  mark_other h e = ap (mark_by m u.place) h ∙ ap (λ b. place_if b u.place) e

kind_some : (m : List ℕ) (p q : Place) (kind : TokenKind) → mark_by m p kind ≡ Some q → (kind ≡ k.Mark m) × (q ≡ p)
kind_some m p q (k.Mark n) h = let w = place_some m n (bytes_eq n m) p q refl h in (ap k.Mark w.0, w.1)
kind_some m p q (k.Number n) h = let z : ⊥ = cc in absurd z
kind_some m p q (k.Str n) h = let z : ⊥ = cc in absurd z
kind_some m p q (k.Name n) h = let z : ⊥ = cc in absurd z
kind_some m p q (k.System n) h = let z : ⊥ = cc in absurd z
kind_some m p q (k.Keyword n) h = let z : ⊥ = cc in absurd z

-- a token that a mark's test takes is that mark, in its place
pub mark_some : (m : List ℕ) (u : Token) (q : Place) → mark m u ≡ Some q → IsMark m u × (q ≡ u.place)
unfolding mark
mark_some m u q h = kind_some m u.place q u.kind h

-- ---- tables

-- what the second table has for each mark of the first
abbrev pub EachHas : {X Y : Type 0} → List (List ℕ × X) → (List ℕ → Y) → Y → Type 0
EachHas [] f y = Unit {0}
EachHas (row ∷ rows) f y = (f row.0 ≡ y) × EachHas rows f y

each_has : {X Y : Type 0} (rows : List (List ℕ × X)) (f : List ℕ → Y) (y : Y) → EachHas rows f y → (m : List ℕ) (x : X) → found_in rows m ≡ Some x → f m ≡ y
each_has [] f y h m x e = let z : ⊥ = cc in absurd z
each_has {X} {Y} (row ∷ rows) f y h m x e = go (bytes_eq m row.0) refl e (each_has rows f y h.1 m x)
  where
    go : (b : Bool) → bytes_eq m row.0 ≡ b → cond b (Some row.1) (found_in rows m) ≡ Some x → (found_in rows m ≡ Some x → f m ≡ y) → f m ≡ y
    go true w g r = ap f ((bytes_eq-Decides m row.0).0 w) ∙ h.0
    go false w g r = r g

kind_has : {X Y : Type 0} (rows : List (List ℕ × X)) (f : TokenKind → Y) (y : Y) → EachHas rows (λ m. f (k.Mark m)) y → (kind : TokenKind) (x : X) → mark_in rows kind ≡ Some x → f kind ≡ y
kind_has rows f y h (k.Mark m) x e = each_has rows (λ m. f (k.Mark m)) y h m x e
kind_has rows f y h (k.Number n) x e = let z : ⊥ = cc in absurd z
kind_has rows f y h (k.Str n) x e = let z : ⊥ = cc in absurd z
kind_has rows f y h (k.Name n) x e = let z : ⊥ = cc in absurd z
kind_has rows f y h (k.System n) x e = let z : ⊥ = cc in absurd z
kind_has rows f y h (k.Keyword n) x e = let z : ⊥ = cc in absurd z

-- what holds of the kind of each mark in a table holds of each token in it
pub table_has : {X Y : Type 0} (rows : List (List ℕ × X)) (f : TokenKind → Y) (y : Y) → EachHas rows (λ m. f (k.Mark m)) y → (u : Token) (x : X) → mark_in rows u.kind ≡ Some x → f u.kind ≡ y
table_has rows f y h u x e = kind_has rows f y h u.kind x e

-- the row that a table has for a token
pub table_row : {X : Type 0} (rows : List (List ℕ × X)) (u : Token) (m : List ℕ) (o : Option X) → IsMark m u → found_in rows m ≡ o → mark_in rows u.kind ≡ o
table_row rows u m o h e = ap (mark_in rows) h ∙ e

unary_none : (p : Place) (o : Option UnaryOperator) → o ≡ None → unary_at p o ≡ None
unary_none p o h = ap (unary_at p) h

pub unary_other : (u : Token) → mark_in unary_operators u.kind ≡ None → unary_operator u ≡ None
unfolding unary_operator
unary_other u h = unary_none u.place _ h
