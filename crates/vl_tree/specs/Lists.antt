-- Parts that may be missing, and lists of parts, whatever the parts are.
-- R x ts rest: at the front of ts stands an x, and rest follows it.
use Rattle.std.specs.Prelude.{◌≡◌, ℕ, List, [], ◌∷◌, Option, Some, None, Bool, true, false, codes}
use Rattle.vl_tree.specs.declared.token.Token.{Token}
use Rattle.vl_tree.specs.declared.token.TokenKind.TheVariants as k
use Rattle.vl_tree.specs.declared.tree.Identifier.{Identifier}
use Rattle.vl_tree.specs.MarksOfGrammar.{IsMark, IsKeyword}

-- a token of this kind comes next
abbrev pub Next : (Token → Type 0) → List Token → Type 0
Next P [] = ⊥
Next P (t ∷ ts) = P t

-- [ x ]
pub data ReadsOptional {A : Type 0} (R : A → List Token → List Token → Type 0) : Option A → List Token → List Token → Type 0 where
  nothing : {ts : List Token} → ReadsOptional R None ts ts
  something : {a : A} {ts rest : List Token} → R a ts rest → ReadsOptional R (Some a) ts rest

-- { x }
pub data ReadsMany {A : Type 0} (R : A → List Token → List Token → Type 0) : List A → List Token → List Token → Type 0 where
  none : {ts : List Token} → ReadsMany R [] ts ts
  another : {a : A} {others : List A} {ts us rest : List Token} → R a ts us → ReadsMany R others us rest → ReadsMany R (a ∷ others) ts rest

-- x { "," x }
pub data ReadsList {A : Type 0} (R : A → List Token → List Token → Type 0) : List A → List Token → List Token → Type 0 where
  last : {a : A} {ts rest : List Token} → R a ts rest → ReadsList R (a ∷ []) ts rest
  further : {a : A} {others : List A} {comma : Token} {ts us rest : List Token} → R a ts (comma ∷ us) → IsMark (codes ",") comma → ReadsList R others us rest → ReadsList R (a ∷ others) ts rest

-- "(" x ")"
pub data ReadsParenthesized {A : Type 0} (R : A → List Token → List Token → Type 0) : A → List Token → List Token → Type 0 where
  parenthesized : {a : A} {opening closing : Token} {ts rest : List Token} → IsMark (codes "(") opening → R a ts (closing ∷ rest) → IsMark (codes ")") closing → ReadsParenthesized R a (opening ∷ ts) rest

-- a mark
pub data ReadsMark (m : List ℕ) : List Token → List Token → Type 0 where
  mark : {t : Token} {rest : List Token} → IsMark m t → ReadsMark m (t ∷ rest) rest

-- [ mark ]
pub data ReadsMarkOrNothing (m : List ℕ) : List Token → List Token → Type 0 where
  no_mark : {ts : List Token} → ReadsMarkOrNothing m ts ts
  a_mark : {t : Token} {rest : List Token} → IsMark m t → ReadsMarkOrNothing m (t ∷ rest) rest

-- [ word ], and whether it stands there
pub data ReadsWord (w : List ℕ) : Bool → List Token → List Token → Type 0 where
  no_word : {ts : List Token} → ReadsWord w false ts ts
  a_word : {t : Token} {rest : List Token} → IsKeyword w t → ReadsWord w true (t ∷ rest) rest

-- id
pub data ReadsIdentifier : Identifier → List Token → List Token → Type 0 where
  identifier : {n : List ℕ} {t : Token} {rest : List Token} → t.kind ≡ k.Name n → ReadsIdentifier (record { place = t.place; name = n }) (t ∷ rest) rest
