-- Which token is which reserved word, which mark and which name.
use Rattle.std.proofs.Common.{◌≡◌, ℕ, Bool, true, false, List, Some, None, refl, sym, ap, ◌∙◌}
use Rattle.std.specs.Str.{bytes_eq}
use Rattle.std.proofs.lemmas.Slice.Eq.{bytes_eq-Decides}
use Rattle.vl_base.specs.declared.place.Place.{Place}
use Rattle.vl_tree.specs.declared.token.Token.{Token}
use Rattle.vl_tree.specs.declared.token.TokenKind.{TokenKind}
use Rattle.vl_tree.specs.declared.token.TokenKind.TheVariants as k
use Rattle.vl_tree.specs.declared.tree.Identifier.{Identifier}
use Rattle.vl_tree.specs.MarksOfGrammar.{IsKeyword}
use Rattle.vl_tree.specs.Reading.{mark, mark_by, keyword, keyword_by, place_if}
use Rattle.vl_tree.specs.Parsers.{identifier_token, identifier_by}

-- ---- reserved words

module _ (m n : List ℕ) (u : Token) where
  pub keyword_here : IsKeyword n u → bytes_eq n m ≡ true → keyword m u ≡ Some u.place
  unfolding keyword
  keyword_here h e = ap (keyword_by m u.place) h ∙ ap (λ b. place_if b u.place) e

  pub keyword_other : IsKeyword n u → bytes_eq n m ≡ false → keyword m u ≡ None
  unfolding keyword
  keyword_other h e = ap (keyword_by m u.place) h ∙ ap (λ b. place_if b u.place) e

pub place_some : (m n : List ℕ) (b : Bool) (p q : Place) → bytes_eq n m ≡ b → place_if b p ≡ Some q → (n ≡ m) × (q ≡ p)
place_some m n true p q e h = ((bytes_eq-Decides n m).0 e, (let w : p ≡ q = cc in sym w))
place_some m n false p q e h = let z : ⊥ = cc in absurd z

kind_some : (m : List ℕ) (p q : Place) (kind : TokenKind) → keyword_by m p kind ≡ Some q → (kind ≡ k.Keyword m) × (q ≡ p)
kind_some m p q (k.Keyword n) h = let w = place_some m n (bytes_eq n m) p q refl h in (ap k.Keyword w.0, w.1)
kind_some m p q (k.Number n) h = let z : ⊥ = cc in absurd z
kind_some m p q (k.Str n) h = let z : ⊥ = cc in absurd z
kind_some m p q (k.Name n) h = let z : ⊥ = cc in absurd z
kind_some m p q (k.System n) h = let z : ⊥ = cc in absurd z
kind_some m p q (k.Mark n) h = let z : ⊥ = cc in absurd z

-- a token that a reserved word's test takes is that word, in its place
pub keyword_some : (m : List ℕ) (u : Token) (q : Place) → keyword m u ≡ Some q → IsKeyword m u × (q ≡ u.place)
unfolding keyword
keyword_some m u q h = kind_some m u.place q u.kind h

-- what holds of the kind of a token holds of the token
pub by_kind : {Y : Type 0} (f : TokenKind → Y) (y : Y) (u : Token) (kind : TokenKind) → u.kind ≡ kind → f kind ≡ y → f u.kind ≡ y
by_kind f y u kind h e = ap f h ∙ e

-- another kind of token is no reserved word and no mark
pub no_keyword : (m : List ℕ) (u : Token) (kind : TokenKind) → u.kind ≡ kind → keyword_by m u.place kind ≡ None → keyword m u ≡ None
unfolding keyword
no_keyword m u kind h e = ap (keyword_by m u.place) h ∙ e

pub no_mark : (m : List ℕ) (u : Token) (kind : TokenKind) → u.kind ≡ kind → mark_by m u.place kind ≡ None → mark m u ≡ None
unfolding mark
no_mark m u kind h e = ap (mark_by m u.place) h ∙ e

-- ---- names

pub name_here : (n : List ℕ) (u : Token) → u.kind ≡ k.Name n → identifier_token u ≡ Some (record { place = u.place; name = n })
unfolding identifier_token
name_here n u h = ap (identifier_by u.place) h

name_kind : (p : Place) (kind : TokenKind) (i : Identifier) → identifier_by p kind ≡ Some i → (n : List ℕ) × (kind ≡ k.Name n) × (i ≡ record { place = p; name = n })
name_kind p (k.Name n) i h = (n, refl, (let w : record { place = p; name = n } ≡ i = cc in sym w))
name_kind p (k.Number n) i h = let z : ⊥ = cc in absurd z
name_kind p (k.Str n) i h = let z : ⊥ = cc in absurd z
name_kind p (k.System n) i h = let z : ⊥ = cc in absurd z
name_kind p (k.Mark n) i h = let z : ⊥ = cc in absurd z
name_kind p (k.Keyword n) i h = let z : ⊥ = cc in absurd z

-- a token that is taken as a name is one, in its place
pub name_some : (u : Token) (i : Identifier) → identifier_token u ≡ Some i → (n : List ℕ) × (u.kind ≡ k.Name n) × (i ≡ record { place = u.place; name = n })
unfolding identifier_token
name_some u i h = name_kind u.place u.kind i h
